-- The commands of the yard's program, and their outcomes (document 01, "The yard's program").
-- Assumes nothing.
use Rattle.std.specs.Prelude.{ℕ, ◌+◌, ◌*◌, Bool, true, false, not, ◌||◌, cond, List, [], Option, Some, None, ltb, eqb, length, drop, replicate}
use Rattle.octets.specs.Octets.{part}
use Rattle.protocol.specs.Layout.{value_length, signature_length, key_length, store_length, out_length}
use Rattle.protocol.specs.Message.{byte_at}
use Rattle.protocol.specs.Record.{zeros}
use Rattle.protocol.specs.Refusals.{Checks}
use Rattle.protocol.specs.Calls.{Result, opening, submit, step}
use Rattle.protocol.specs.declared.Record.{Record}
use Rattle.protocol.specs.declared.Opened.{Opened}
use Rattle.protocol.specs.declared.Stepped.{Stepped}
use Rattle.yard.specs.Line.{line, in_space}
use Rattle.yard.specs.declared.commands.Answer.{Answer}
use Rattle.yard.specs.declared.commands.Call.{Call}
use Rattle.yard.specs.declared.commands.Call.TheVariants as call

-- a number of two bytes
abbrev pub two_at : List ℕ → ℕ → ℕ
two_at bytes i = byte_at bytes i * 256 + byte_at bytes (i + 1)

-- ---- the outcome of a command

-- whether the program ends with it, record and store after it, the bytes written to `out`, and the line printed
pub record Outcome : Type 0 where
  pub ends : Bool
  pub unit : Record
  pub store : List ℕ
  pub written : List ℕ
  pub line : List ℕ

-- "Per call it prints refusal number or 0, a space, bytes written, newline"; where the input has ended there is no call, and
-- nothing is printed
unfoldable pub line_for : List ℕ → ℕ → ℕ → List ℕ
line_for bytes number written = cond (eqb (length bytes) 0) [] (line number written)

-- the code's answer: all but the buffers, which are lent to it
unfoldable pub told : Outcome → Answer
told o = record { ends = o.ends; unit = o.unit; line = in_space o.line }

-- ---- the first command: "0x10 (n 1, seat 1, round 2, then n keys)", "for n up to 7"

abbrev pub most_yard_seats : ℕ
most_yard_seats = 7

abbrev pub is_opening : List ℕ → Bool
is_opening bytes = eqb (byte_at bytes 0) 0x10

abbrev pub too_many : List ℕ → Bool
too_many bytes = ltb most_yard_seats (byte_at bytes 1)

-- place of its keys
abbrev pub keys_at : ℕ
keys_at = 5

abbrev pub keys_of : List ℕ → List ℕ
keys_of bytes = drop keys_at bytes

-- its length, as far as the bytes at its start tell it; "n above 7 prints `1 0`, and n = 0 too; both need no keys". Without 0x10 it
-- is 1.
unfoldable pub opening_length : List ℕ → ℕ
opening_length bytes = cond (is_opening bytes) (keys_at + cond (too_many bytes) 0 (key_length * byte_at bytes 1)) 1

abbrev pub longest_opening : ℕ
longest_opening = keys_at + key_length * most_yard_seats

-- "a short operand, a first command other than 0x10": over the command's bytes, as far as the input has them
unfoldable pub misframed_opening : List ℕ → Bool
misframed_opening bytes = ltb (length bytes) (opening_length bytes) || not (is_opening bytes)

-- "a refused opening gives a record of zeros"
abbrev pub refused_opening : ℕ → Opened
refused_opening number = record { number = number; unit = zeros }

unfoldable pub opened : List ℕ → Opened
opened bytes =
    cond (misframed_opening bytes) (refused_opening 9)
    (cond (too_many bytes) (refused_opening 1)
    (opening (byte_at bytes 1) (byte_at bytes 2) (two_at bytes 3) (keys_of bytes)))

-- the store at first, and an out buffer, of the lengths for 7 seats
unfoldable pub yard_store : List ℕ
yard_store = replicate (store_length most_yard_seats) 0

unfoldable pub yard_out : List ℕ
yard_out = replicate (out_length most_yard_seats) 0

-- "A refused opening ends it"
unfoldable pub begun : List ℕ → Outcome
begun bytes =
    let o = opened bytes in
    record { ends = not (eqb o.number 0); unit = o.unit; store = yard_store; written = []; line = line_for bytes o.number 0 }

-- ---- each later one: "0x11 (length 2, message) or 0x12 (value 32, signature 1,452)"

abbrev pub is_message : List ℕ → Bool
is_message bytes = eqb (byte_at bytes 0) 0x11

abbrev pub is_submit : List ℕ → Bool
is_submit bytes = eqb (byte_at bytes 0) 0x12

-- places of the message, and of value and signature
abbrev pub message_at : ℕ
message_at = 3

abbrev pub own_value_at : ℕ
own_value_at = 1

abbrev pub own_signature_at : ℕ
own_signature_at = own_value_at + value_length

-- its length, as far as the bytes at its start tell it
unfoldable pub call_length : List ℕ → ℕ
call_length bytes = cond (is_message bytes) (message_at + two_at bytes 1) (cond (is_submit bytes) (own_signature_at + signature_length) 1)

abbrev pub longest_call : ℕ
longest_call = message_at + 65535

-- "An unknown command, a short operand, .. or a second 0x10"
unfoldable pub misframed_call : List ℕ → Bool
misframed_call bytes = ltb (length bytes) (call_length bytes) || not (is_message bytes || is_submit bytes)

-- the code's reading of it: by the first byte, and where it stands whole
unfoldable pub call_of : List ℕ → Option Call
call_of bytes = cond (is_message bytes) (Some call.Message) (cond (is_submit bytes) (Some call.Submit) None)

unfoldable pub whole_call : List ℕ → Option Call
whole_call bytes = cond (ltb (length bytes) (call_length bytes)) None (call_of bytes)

-- "prints `9 0` and ends it"
abbrev pub ended_by : Record → List ℕ → List ℕ → Outcome
ended_by r store bytes = record { ends = true; unit = r; store = store; written = []; line = line_for bytes 9 0 }

-- a call of the confirmer, refused or not
abbrev pub call_answer : Result → Outcome
call_answer a = record { ends = false; unit = a.unit; store = a.store; written = a.written; line = line a.refusal (length a.written) }

-- the code's answer to it
unfoldable pub told_call : Stepped → Answer
told_call a = record { ends = false; unit = a.unit; line = in_space (line a.number a.written) }

-- the outcome, with the signature check under a key table in a round: key table, record, store, out, and the command's bytes
unfoldable pub called : (List ℕ → ℕ → Checks) → List ℕ → Record → List ℕ → List ℕ → List ℕ → Outcome
called checks keys r store out bytes =
    cond (misframed_call bytes) (ended_by r store bytes)
    (cond (is_message bytes)
    (call_answer (step (checks keys r.round) keys r store (drop message_at bytes) out))
    (call_answer (submit (checks keys r.round) keys r store (part own_value_at value_length bytes) (drop own_signature_at bytes) out)))
