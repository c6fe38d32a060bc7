-- The length of a message, and the seats of its entries, as the readers find them.
-- Assumes nothing.
use Rattle.std.specs.Prelude.{◌≡◌, refl, true, false, ◌⊎◌, List, ℕ, ◌+◌, ◌≤◌, ltb, length}
use Rattle.std.proofs.Common.{sym, ◌∙◌, ⊎_elim, arith, ltb-true, lt-ltb}
use Rattle.std.proofs.lemmas.Bool.{not-false}
use Rattle.quorum.specs.Quorum.{k}
use Rattle.refusal.specs.RefusalLaws.{both_true}
use Rattle.protocol.specs.Layout.{value_length, signature_length, value_at, full_entry_length, evidence_length}
use Rattle.protocol.specs.Figures.{submit_figure, notice_figure, full_figure, evidence_figure, old-evidence_figure}
use Rattle.protocol.specs.Entries.{place_of}
use Rattle.protocol.specs.Message.{PackForm, ValuesOnce, ValuesEach, Message, Submit, Notice, Full, Evidence, Garbled, full_form, evidence_form, pack_in, form_of, count_of, fits_evidence, read_submit, read_notice, read_full, read_evidence, read, entry_seats, seats_of}
use Rattle.protocol.specs.Refusals.{every, stranger}
use Rattle.protocol.specs.ConditionsLaws.{every_each, each_every}
use Rattle.protocol.specs.MessageLaws.{evidence-place, old-evidence-place, full_faithful, evidence_faithful, submit-fits, notice-fits, full-fits, evidence-fits}
use Rattle.layout.specs.Places.{full}
use Rattle.wire.specs.Reading.{kind_of, bytes_at, seats_in, pack_entries, Inside}
use Rattle.wire.specs.WalkLaws.{seats-walked}
use Rattle.wire.specs.KindLaws.{read_as_lem, tag}
use Rattle.wire.specs.declared.read.Kind.{Kind}
use Rattle.wire.specs.declared.read.Kind.TheVariants as kind

-- ---- lengths

-- an EVIDENCE has an entry or more, and with one entry either form has 2,974 bytes
evidence-long : (n : ℕ) (bytes : List ℕ) → fits_evidence n bytes ≡ true → evidence_length 1 ≤ length bytes
evidence-long n bytes h = let fits = evidence-fits n bytes h in go (pack_in bytes) (count_of bytes) fits.some fits.size
  where
    go : (form : PackForm) (count : ℕ) → 1 ≤ count → length bytes ≡ place_of (evidence_form form) count → evidence_length 1 ≤ length bytes
    go (ValuesOnce values) count some size = omega (arith, old-evidence-place values count, old-evidence_figure count, evidence_figure 1)
    go ValuesEach count some size = omega (arith, evidence-place count, evidence_figure count, evidence_figure 1)

-- every command but a garbled one is as long as a NOTICE or longer
pub long-enough : (t : Kind) (n : ℕ) (bytes : List ℕ) → t ≡ kind_of (read n bytes) → (tag t ≡ 5 → ⊥) → value_at + value_length ≤ length bytes
long-enough kind.Submit n bytes e h = omega (arith, (submit-fits bytes (read_as_lem kind.Submit n bytes e).1).0, submit_figure)
long-enough kind.Notice n bytes e h = omega (arith, (notice-fits bytes (read_as_lem kind.Notice n bytes e).1).0, notice_figure)
long-enough kind.Full n bytes e h = omega (arith, (full-fits n bytes (read_as_lem kind.Full n bytes e).1).size, full_figure n)
long-enough kind.OldEvidence n bytes e h = omega (arith, evidence-long n bytes (read_as_lem kind.OldEvidence n bytes e).1, evidence_figure 1)
long-enough kind.Evidence n bytes e h = omega (arith, evidence-long n bytes (read_as_lem kind.Evidence n bytes e).1, evidence_figure 1)
long-enough kind.Garbled n bytes e h = absurd (h refl)

-- ---- the seats of the entries

module _ (n : ℕ) (bytes : List ℕ) where
  pub full-seats : (t : Kind) → t ≡ kind_of (read n bytes) → t ≡ kind.Full → (count : ℕ) → count ≡ k n → (seats_in (full count) bytes ≡ entry_seats (read n bytes)) × Inside (full count) bytes
  unfolding entry_seats read_full full_form place_of full_entry_length signature_length
  full-seats t e g count q =
      let r = read_as_lem kind.Full n bytes (sym g ∙ e) in
      (rw (r.0, q) (seats-walked full_form bytes full_faithful (k n)), omega (arith, (full-fits n bytes r.1).size, full_figure n))

  -- in either form of EVIDENCE
  pub pack-seats : (read n bytes ≡ read_evidence bytes) × (fits_evidence n bytes ≡ true) → (seats_in (pack_entries bytes) bytes ≡ entry_seats (read n bytes)) × Inside (pack_entries bytes) bytes
  unfolding entry_seats read_evidence evidence_form place_of
  pack-seats r = (rw r.0 (seats-walked (form_of bytes) bytes (evidence_faithful (pack_in bytes)) (count_of bytes)), omega (arith, (evidence-fits n bytes r.1).size))

  pub evidence-seats : (t : Kind) → t ≡ kind_of (read n bytes) → (tag t ≡ 3) ⊎ (tag t ≡ 4) → (seats_in (pack_entries bytes) bytes ≡ entry_seats (read n bytes)) × Inside (pack_entries bytes) bytes
  evidence-seats kind.Submit e h = absurd (⊎_elim (λ a. omega arith) (λ a. omega arith) h)
  evidence-seats kind.Notice e h = absurd (⊎_elim (λ a. omega arith) (λ a. omega arith) h)
  evidence-seats kind.Full e h = absurd (⊎_elim (λ a. omega arith) (λ a. omega arith) h)
  evidence-seats kind.OldEvidence e h = pack-seats (read_as_lem kind.OldEvidence n bytes e)
  evidence-seats kind.Evidence e h = pack-seats (read_as_lem kind.Evidence n bytes e)
  evidence-seats kind.Garbled e h = absurd (⊎_elim (λ a. omega arith) (λ a. omega arith) h)

  -- the others have no entries
  pub no_seats : (t : Kind) → t ≡ kind_of (read n bytes) → (tag t ≡ 0) ⊎ ((tag t ≡ 1) ⊎ (tag t ≡ 5)) → (seats_in (full 0) bytes ≡ entry_seats (read n bytes)) × Inside (full 0) bytes
  unfolding bytes_at entry_seats read_submit read_notice full_entry_length signature_length
  no_seats kind.Submit e h = (rw (read_as_lem kind.Submit n bytes e).0, omega arith)
  no_seats kind.Notice e h = (rw (read_as_lem kind.Notice n bytes e).0, omega arith)
  no_seats kind.Full e h = absurd (⊎_elim (λ a. omega arith) (⊎_elim (λ a. omega arith) (λ a. omega arith)) h)
  no_seats kind.OldEvidence e h = absurd (⊎_elim (λ a. omega arith) (⊎_elim (λ a. omega arith) (λ a. omega arith)) h)
  no_seats kind.Evidence e h = absurd (⊎_elim (λ a. omega arith) (⊎_elim (λ a. omega arith) (λ a. omega arith)) h)
  no_seats kind.Garbled e h = (rw (read_as_lem kind.Garbled n bytes e).0, omega arith)

-- where no seat is a stranger, those of the entries are below n, and below any bound from n on
below-n : (n : ℕ) (m : Message) → stranger n m ≡ false → every (λ (s : ℕ). ltb s n) (entry_seats m) ≡ true
unfolding stranger seats_of entry_seats every
below-n n (Submit round seat value signature) e = refl
below-n n (Notice round seat value) e = refl
below-n n (Full round sender value entries) e = (both_true (ltb sender n) _ (not-false _ e)).1
below-n n (Evidence round form entries) e = not-false _ e
below-n n Garbled e = refl

pub known-entries : (n : ℕ) (m : Message) (l : List ℕ) (w : ℕ) → n ≤ w → stranger n m ≡ false → l ≡ entry_seats m → every (λ (s : ℕ). ltb s w) l ≡ true
known-entries n m l w h e q =
    let seats = entry_seats m in
    rw q (each_every _ seats (λ s d. let below = ltb-true s n (every_each _ seats (below-n n m e) s d) in lt-ltb s w (omega arith)))
