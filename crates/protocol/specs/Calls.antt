-- Each call as a function of its arguments. It answers the first number of its list whose condition holds (`Order`). "A refusal
-- returns its number and 0 bytes written; record, store, tree and out keep every byte."
-- Assumes nothing.
use Rattle.std.specs.Prelude.{ℕ, cond, List, [], length}
use Rattle.octets.specs.Octets.{patch}
use Rattle.refusal.specs.Refusal.{first_of, unrefused}
use Rattle.protocol.specs.Values.{is_lower}
use Rattle.protocol.specs.Message.{Message, read, render, render_all, entry_seats}
use Rattle.protocol.specs.Certificate.{certificate_in, set_of, conflict_of}
use Rattle.protocol.specs.Joining.{joined_of}
use Rattle.protocol.specs.Record.{fresh, zeros}
use Rattle.protocol.specs.Note.{render_note, note_record}
use Rattle.protocol.specs.Refusals.{Checks, opening_conditions, submit_conditions, step_conditions, evidence_conditions, making_conditions, lower_conditions, joining_conditions, write_note_conditions, read_note_conditions}
use Rattle.protocol.specs.Step.{State, submitted, stepped}
use Rattle.protocol.specs.declared.Record.{Record}
use Rattle.protocol.specs.declared.Opened.{Opened}
use Rattle.protocol.specs.declared.Stepped.{Stepped}
use Rattle.protocol.specs.declared.Written.{Written}
use Rattle.protocol.specs.declared.Checked.{Checked}

-- "the answer gives the bytes written, and bytes beyond them keep what they held": out after any call
unfoldable pub out_after : List ℕ → List ℕ → List ℕ
out_after written out = patch 0 written out

-- ---- opening

-- "gives the record with nothing else set; a refused opening gives a record of zeros", and "A refused note gives a record of zeros."
-- (document 02, item 2): the answer of either
unfoldable pub opened_by : ℕ → Record → Opened
opened_by refusal r = record { number = refusal; unit = unrefused refusal r zeros }

-- "Opening takes n, seat, round and key table"
unfoldable pub opening : ℕ → ℕ → ℕ → List ℕ → Opened
opening n seat round keys = opened_by (first_of (opening_conditions n seat round keys)) (fresh n seat round)

-- ---- submit and step

-- result of either: the refusal number or 0, the record and the store afterwards, and the bytes written
pub record Result : Type 0 where
  pub refusal : ℕ
  pub unit : Record
  pub store : List ℕ
  pub written : List ℕ

-- the result by its refusal number, from the state that it reaches where nothing is refused, and the record and store lent
unfoldable pub result_by : ℕ → State → Record → List ℕ → Result
result_by refusal s r store = record {
  refusal = refusal;
  unit = unrefused refusal s.unit r;
  store = unrefused refusal s.store store;
  written = unrefused refusal (render_all s.written) [];
}

-- state at the start of either
abbrev pub start : Record → List ℕ → State
start r store = record { unit = r; store = store; written = [] }

-- submit: key table, record, store, value, signature, out
unfoldable pub submit : Checks → List ℕ → Record → List ℕ → List ℕ → List ℕ → List ℕ → Result
submit checks keys r store value signature out =
    result_by (first_of (submit_conditions checks keys r store value signature out)) (submitted value signature (start r store)) r store

-- a step, by value or through the thin entry: key table, record, store, message, out
unfoldable pub step : Checks → List ℕ → Record → List ℕ → List ℕ → List ℕ → Result
step checks keys r store bytes out =
    result_by (first_of (step_conditions checks keys r store (read r.n bytes) out)) (stepped (read r.n bytes) (start r store)) r store

-- the answer of either
unfoldable pub answer : Result → Stepped
answer result = record { number = result.refusal; written = length result.written; unit = result.unit }

-- ---- evidence from two certificates

-- its result, and that of joining two packs and of writing a note: the refusal number or 0, and the bytes written
pub record Making : Type 0 where
  pub refusal : ℕ
  pub written : List ℕ

-- the result by its refusal number, from the message to write
unfoldable pub making_by : ℕ → Message → Making
making_by refusal m = record { refusal = refusal; written = unrefused refusal (render m) [] }

-- "Evidence can be made from two certificates in hand, given in either order, by the same rules.": n, round, key table, the
-- certificates, out
unfoldable pub making : Checks → ℕ → ℕ → List ℕ → List ℕ → List ℕ → List ℕ → Making
making checks n round keys a b out =
    making_by (first_of (making_conditions checks n round keys (read n a) (read n b) out)) (conflict_of n round (certificate_in (read n a)) (certificate_in (read n b)))

-- its answer
unfoldable pub made : Making → Written
made result = record { number = result.refusal; written = length result.written }

-- ---- the evidence check

-- "The evidence check answers the mask of the seats named, 0 with a refusal."
unfoldable pub checked_by : ℕ → Message → Checked
checked_by refusal m = record { number = refusal; mask = unrefused refusal (set_of (entry_seats m)) 0 }

-- the evidence check: n, round, key table, evidence
unfoldable pub evidence_check : Checks → ℕ → ℕ → List ℕ → List ℕ → Checked
evidence_check checks n round keys bytes = checked_by (first_of (evidence_conditions checks n round keys (read n bytes))) (read n bytes)

-- ---- two packs joined (document 02, item 5)

-- "Two accepted 0x07 packs of one round and one key table become one": n, round, key table, the packs, out
unfoldable pub joining : Checks → ℕ → ℕ → List ℕ → List ℕ → List ℕ → List ℕ → Making
joining checks n round keys a b out =
    making_by (first_of (joining_conditions checks n round keys (read n a) (read n b) out)) (joined_of n round (read n a) (read n b))

-- ---- the lower certificate

-- "the one with the lower value"
unfoldable pub lower_of : ℕ → List ℕ → List ℕ → List ℕ
lower_of n a b = cond (is_lower (certificate_in (read n a)).value (certificate_in (read n b)).value) a b

-- "Of two certificates that conflict, the one with the lower value is handed back as a part of whichever lent buffer holds
-- it; where the call or either certificate is refused or they don't conflict, the part has length 0.": n, round, key table,
-- the certificates. Their lengths are exact, so that the part is the whole of one.
unfoldable pub lower_certificate : Checks → ℕ → ℕ → List ℕ → List ℕ → List ℕ → List ℕ
lower_certificate checks n round keys a b = unrefused (first_of (lower_conditions checks n round keys (read n a) (read n b))) (lower_of n a b) []

-- ---- the note (document 02, item 2)

-- "The record shall be written out as a note": the result by its refusal number
unfoldable pub noting_by : ℕ → Record → Making
noting_by refusal r = record { refusal = refusal; written = unrefused refusal (render_note r) [] }

-- writing a note: record, out
unfoldable pub write_note : Record → List ℕ → Making
write_note r out = noting_by (first_of (write_note_conditions r out)) r

-- reading a note. "A refused note gives a record of zeros."
unfoldable pub read_note : List ℕ → Opened
read_note note = opened_by (first_of (read_note_conditions note)) (note_record note)
