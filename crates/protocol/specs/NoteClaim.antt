-- The note (document 02, item 2): "A note read back is the record it came from, and only notes that the writer could have written are
-- taken."
-- Assumes nothing.
use Rattle.std.specs.Prelude.{◌≡◌, false, List, [], ◌↔◌, ℕ, ◌≤◌, ◌<◌, length}
use Rattle.std.proofs.Common.{sym, ap, ◌∙◌, arith, lt-ltb, le-ltb}
use Rattle.std.proofs.Math.Decide.{ℕ_discrete}
use Rattle.refusal.specs.Refusal.{first_of, unrefused}
use Rattle.refusal.specs.RefusalLaws.{first_of-zero, refused-old}
use Rattle.protocol.specs.Layout.{note_length}
use Rattle.protocol.specs.Message.{byte_at}
use Rattle.protocol.specs.Record.{zeros, impossible}
use Rattle.protocol.specs.RecordLaws.{possible}
use Rattle.protocol.specs.Note.{render_note, note_record, ValuesSized, NoteFits}
use Rattle.protocol.specs.NoteLaws.{length-render_note, record_back, right_note, note_right, note_back, values-sized}
use Rattle.protocol.specs.Refusals.{short_out, write_note_conditions, read_note_conditions}
use Rattle.protocol.specs.Calls.{opened_by, noting_by, write_note, read_note}
use Rattle.protocol.specs.declared.Record.{Record}

-- ---- "The record shall be written out as a note: .. That is 118 bytes, and a shorter out buffer is refused as 7."

-- a writing that isn't refused
module _ (r : Record) (out : List ℕ) (e : (write_note r out).refusal ≡ 0) where
  pub written-possible : impossible r ≡ false
  unfolding write_note write_note_conditions noting_by
  written-possible = (first_of-zero 3 _ _ e).0

  pub written-note : (write_note r out).written ≡ render_note r
  unfolding write_note noting_by unrefused
  written-note = rw e

  pub written-length : ValuesSized r → length (write_note r out).written ≡ note_length
  written-length sized = rw written-note (length-render_note r sized)

-- a possible record and enough room
pub note-written : (r : Record) (out : List ℕ) → impossible r ≡ false → note_length ≤ length out → write_note r out ≡ record { refusal = 0; written = render_note r }
unfolding write_note write_note_conditions noting_by short_out first_of unrefused
note-written r out e room = rw (e, le-ltb (length out) note_length room)

-- too little room
pub short-refused : (r : Record) (out : List ℕ) → impossible r ≡ false → length out < note_length → (write_note r out).refusal ≡ 7
unfolding write_note write_note_conditions noting_by short_out first_of
short-refused r out e short = rw (e, lt-ltb (length out) note_length short)

-- a refused writing writes nothing
pub refused-writes-nothing : (r : Record) (out : List ℕ) → ((write_note r out).refusal ≡ 0 → ⊥) → (write_note r out).written ≡ []
unfolding write_note noting_by
refused-writes-nothing r out = refused-old (first_of (write_note_conditions r out)) (render_note r) []

-- no writing writes more than 118 bytes
pub written_most : (r : Record) (out : List ℕ) → ValuesSized r → length (write_note r out).written ≤ note_length
written_most r out sized = go (ℕ_discrete (write_note r out).refusal 0)
  where
    go : Dec ((write_note r out).refusal ≡ 0) → length (write_note r out).written ≤ note_length
    go (yes e) = omega (arith, written-length r out e sized)
    go (no d) = omega (arith, ap length (refused-writes-nothing r out d))

-- ---- "A note read back is the record it came from"

-- the bytes of a possible record are that record
pub note-read_back : (r : Record) → impossible r ≡ false → ValuesSized r → read_note (render_note r) ≡ record { number = 0; unit = r }
unfolding read_note read_note_conditions opened_by first_of unrefused
note-read_back r e sized = rw (right_note r sized (possible r e), record_back r sized (possible r e), e)

-- whatever is written is read back
pub read_back : (r : Record) (out : List ℕ) → ValuesSized r → (write_note r out).refusal ≡ 0 → read_note (write_note r out).written ≡ record { number = 0; unit = r }
read_back r out sized e = rw (written-note r out e) (note-read_back r (written-possible r out e) sized)

-- so different records have different notes
pub same_record : (r s : Record) → impossible r ≡ false → impossible s ≡ false → ValuesSized r → ValuesSized s → render_note r ≡ render_note s → r ≡ s
same_record r s e f sized sized' same = sym (record_back r sized (possible r e)) ∙ ap note_record same ∙ record_back s sized' (possible s f)

-- ---- ".. and only notes that the writer could have written are taken."

-- a note that is taken
module _ (note : List ℕ) (e : (read_note note).number ≡ 0) where
  pub taken-fits : NoteFits note
  unfolding read_note read_note_conditions opened_by
  taken-fits = (note_right note).0 (first_of-zero 16 _ _ e).0

  taken_record : (read_note note).unit ≡ note_record note
  unfolding read_note opened_by unrefused
  taken_record = rw e

  pub taken-possible : impossible (note_record note) ≡ false
  unfolding read_note read_note_conditions opened_by
  taken-possible = (first_of-zero 3 _ _ (first_of-zero 16 _ _ e).1).0

  -- its record is one that the code's type has
  pub taken-sized : ValuesSized (read_note note).unit
  taken-sized = rw taken_record (values-sized note taken-fits)

-- it is, byte for byte, what the writer writes of the record read. Bytes are below 256 by the code's type.
pub taken_was_written : (note : List ℕ) → ((i : ℕ) → byte_at note i < 256) → (read_note note).number ≡ 0 → (out : List ℕ) → note_length ≤ length out
    → write_note (read_note note).unit out ≡ record { refusal = 0; written = note }
taken_was_written note b e out room =
    rw (taken_record note e, note-written (note_record note) out (taken-possible note e) room, note_back note b (taken-fits note e))

-- what the writer could have written: the whole of what it wrote of some record into some buffer
pub record CouldWrite (note : List ℕ) : Type 0 where
  pub unit : Record
  pub sized : ValuesSized unit
  pub out : List ℕ
  pub wrote : write_note unit out ≡ record { refusal = 0; written = note }

-- bytes are taken exactly where they are such a note
pub taken_exactly : (note : List ℕ) → ((i : ℕ) → byte_at note i < 256) → ((read_note note).number ≡ 0) ↔ CouldWrite note
taken_exactly note b = (
  λ e. record {
    unit = (read_note note).unit;
    sized = taken-sized note e;
    out = note;
    wrote = taken_was_written note b e note (omega (arith, (taken-fits note e).size));
  },
  λ c.
      let back = read_back c.unit c.out c.sized (ap (λ w. w.refusal) c.wrote) in
      ap (λ o. o.number) (rw c.wrote at back),
)

-- "A refused note gives a record of zeros."
pub refused-gives-zeros : (note : List ℕ) → ((read_note note).number ≡ 0 → ⊥) → (read_note note).unit ≡ zeros
unfolding read_note opened_by
refused-gives-zeros note = refused-old (first_of (read_note_conditions note)) (note_record note) zeros
