-- The returns of writing and reading a note, over plain values.
-- Assumes nothing.
use Rattle.std.specs.Prelude.{◌≡◌, refl, Bool, true, false, not, ◌||◌, ℕ, ◌≤◌, ◌<◌, eqb, length}
use Rattle.std.proofs.Math.Path.{sym, ap}
use Rattle.std.proofs.Common.{◌∙◌, arith}
use Rattle.std.proofs.Math.Bool.{or_assoc}
use mathlib.Core.List.{List, [], ◌∷◌}
use borrow.Author.Tests.{eq-eqb, ltb-false}
use Rattle.octets.specs.Octets.{patch}
use Rattle.octets.specs.StringsLaws.{patch-nothing}
use Rattle.refusal.specs.Refusal.{first_of, unrefused}
use Rattle.refusal.specs.RefusalLaws.{first_of-zero, refused-old, test-held, test-passed}
use Rattle.protocol.specs.Layout.{note_length}
use Rattle.protocol.specs.Record.{impossible}
use Rattle.protocol.specs.RecordLaws.{possible}
use Rattle.protocol.specs.Message.{byte_at}
use Rattle.protocol.specs.Note.{render_note, note_record, note_flags, both_heard, unknown_flag, wrong_note}
use Rattle.protocol.specs.NoteLaws.{note_right}
use Rattle.protocol.specs.Refusals.{short_out, RECORD, OUT, write_note_conditions, read_note_conditions}
use Rattle.protocol.specs.Calls.{out_after, made, noting_by, opened_by, write_note, read_note}
use Rattle.protocol.specs.declared.Record.{Record}
use Rattle.protocol.specs.declared.Written.{Written}

-- ---- writing

abbrev answered : ℕ → ℕ → Written
answered number written = record { number = number; written = written }

module _ (r : Record) (out : List ℕ) {number : ℕ} (told : number ≡ first_of (write_note_conditions r out)) where
  -- answer of the call, and `out` after it
  abbrev WriteReturns : ℕ → ℕ → List ℕ → Type 0
  WriteReturns number written after = (answered number written ≡ made (write_note r out)) × (after ≡ out_after (write_note r out).written out)

  pub write-refused : (number ≡ 0 → ⊥) → WriteReturns number 0 out
  unfolding write_note noting_by made out_after
  write-refused h = rw (← told, refused-old) (refl, sym (patch-nothing out))

  module _ (none : number ≡ 0) where
    pub write-fits : (r.n < 256) × (r.seat < 256) × (note_length ≤ length out)
    unfolding write_note_conditions short_out
    write-fits =
        let one = first_of-zero 3 (impossible r) (OUT note_length out ∷ []) (sym told ∙ none) in
        let two = first_of-zero 6 (short_out note_length out) [] one.1 in
        let range = (possible r one.0).range in
        (omega (arith, range.most, range.seated), omega (arith, range.most, range.seated), ltb-false (length out) note_length two.0)

    pub write_done : {after : List ℕ} {end : ℕ} → after ≡ patch 0 (render_note r) out → end ≡ length (render_note r) → WriteReturns 0 end after
    unfolding write_note noting_by made unrefused out_after
    write_done w e = rw (sym told ∙ none) (ap (answered 0) e, w)

-- ---- reading

-- in a note of the right length, the tests after that of the length
pub others_tested : (note : List ℕ) → length note ≡ note_length → {rest : Bool} → rest ≡ (both_heard (note_flags note) || unknown_flag (note_flags note))
    → (not (eqb (byte_at note 0) 0x20) || rest) ≡ wrong_note note
unfolding wrong_note
others_tested note l e = rw (eq-eqb (length note) note_length l, e) (sym (or_assoc (not (eqb (byte_at note 0) 0x20)) (both_heard (note_flags note)) (unknown_flag (note_flags note))))

module _ (note : List ℕ) {test : Bool} (is : test ≡ wrong_note note) where
  pub read_wrong : test ≡ true → (unit : Record) → opened_by 17 unit ≡ read_note note
  unfolding read_note opened_by read_note_conditions unrefused
  read_wrong h unit = rw (← test-held 17 (wrong_note note) _ test is h)

  module _ (right : test ≡ false) where
    pub right_length : length note ≡ note_length
    right_length = ((note_right note).0 (sym is ∙ right)).size

    pub read_right : (number : ℕ) → number ≡ first_of (RECORD (note_record note) ∷ []) → opened_by number (note_record note) ≡ read_note note
    unfolding read_note read_note_conditions
    read_right number e = ap (λ (m : ℕ). opened_by m (note_record note)) (test-passed 17 (wrong_note note) _ test is number right e)
