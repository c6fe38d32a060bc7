-- The commands on the air: messages, their bytes, and the message in given bytes.
-- Assumes nothing.
use Rattle.std.specs.Prelude.{ℕ, ◌+◌, ◌*◌, ◌≤◌, ◌<◌, ◌≡◌, Bool, cond, ◌&&◌, leb, eqb, length, take, drop}
use mathlib.Core.List.{List, [], ◌∷◌, ◌++◌, flat_map}
use Rattle.octets.specs.Octets.{part, be}
use Rattle.quorum.specs.Quorum.{k}
use Rattle.protocol.specs.Layout.{value_length, signature_length, round_at, seat_at, value_at, submit_signature_at, submit_length, notice_length, full_count_at, full_start, full_length, evidence_count_at, evidence_start, pair_lower_value_at, pair_higher_value_at, pair_lower_at, pair_higher_at, pair_length, lower_at, higher_at, old_evidence_count_at, old_evidence_start, old_pair_length}
pub use Rattle.protocol.specs.Entries.{byte_at}
use Rattle.protocol.specs.Entries.{Form, place_of, Laid, render_entries, entry_commands, read_entries, form_seats}

-- ---- messages

-- an entry of FULL: "0x04, seat 1, signature 1,452"
pub record Entry : Type 0 where
  pub seat : ℕ
  pub signature : List ℕ

-- an entry of EVIDENCE: "0x08, seat 1, lower value 32, higher value 32 and their signatures in that order, so each seat has its own
-- pair" (document 02, item 3). The old one's, "0x06, seat 1, the signature over the lower value, the signature over the higher", has the
-- values of its message.
pub record Pair : Type 0 where
  pub seat : ℕ
  pub lower_value : List ℕ
  pub higher_value : List ℕ
  pub lower : List ℕ
  pub higher : List ℕ

-- the two values that the old EVIDENCE has once for all its pairs
pub record PairValues : Type 0 where
  pub lower : List ℕ
  pub higher : List ℕ

-- the form of an EVIDENCE: the values once, before the count, which is the old 0x05; or the values in each entry, which is 0x07
pub data PackForm : Type 0 where
  ValuesOnce : (values : PairValues) → PackForm
  ValuesEach : PackForm

-- "SUBMIT: round 2, seat 1, value 32, signature 1,452."
-- "NOTICE: round 2, seat 1, value 32."
-- "FULL: round 2, sender seat 1, value 32, count 1 (always k), then k entries"
-- "Evidence becomes 0x07: round 2, count 1 (1 to n), then entries" (document 02, item 3); "The old 0x05 is still accepted": "round 2,
-- lower value 32, higher value 32, count 1 (1 to n), then entries"
-- Garbled: bytes that are none of these
pub data Message : Type 0 where
  Submit : (round seat : ℕ) (value signature : List ℕ) → Message
  Notice : (round seat : ℕ) (value : List ℕ) → Message
  Full : (round sender : ℕ) (value : List ℕ) (entries : List Entry) → Message
  Evidence : (round : ℕ) (form : PackForm) (entries : List Pair) → Message
  Garbled : Message

-- ---- the lists of entries

-- FULL's: "0x04, seat 1, signature 1,452"
unfoldable pub full_form : Form Entry
full_form = record {
  start = full_start;
  command = 0x04;
  held = signature_length;
  seat = λ (e : Entry). e.seat;
  bytes = λ (e : Entry). e.signature;
  make = λ (seat : ℕ) (held : List ℕ). record { seat = seat; signature = held };
}

-- EVIDENCE's, by its form: command, values before the count, and place of the count
abbrev pub pack_command : PackForm → ℕ
pack_command (ValuesOnce values) = 0x05
pack_command ValuesEach = 0x07

abbrev pub pack_values : PackForm → List ℕ
pack_values (ValuesOnce values) = values.lower ++ values.higher
pack_values ValuesEach = []

abbrev pub pack_count_at : PackForm → ℕ
pack_count_at (ValuesOnce values) = old_evidence_count_at
pack_count_at ValuesEach = evidence_count_at

-- place of the first entry, command of an entry, and number of bytes that it holds
abbrev pub pack_start : PackForm → ℕ
pack_start (ValuesOnce values) = old_evidence_start
pack_start ValuesEach = evidence_start

abbrev pub pair_command : PackForm → ℕ
pair_command (ValuesOnce values) = 0x06
pair_command ValuesEach = 0x08

abbrev pub pair_held : PackForm → ℕ
pair_held (ValuesOnce values) = old_pair_length
pair_held ValuesEach = pair_length

-- "the signature over the lower value, the signature over the higher"; "lower value 32, higher value 32 and their signatures in that order"
abbrev pub pair_bytes : PackForm → Pair → List ℕ
pair_bytes (ValuesOnce values) p = p.lower ++ p.higher
pair_bytes ValuesEach p = p.lower_value ++ p.higher_value ++ p.lower ++ p.higher

abbrev pub pair_made : PackForm → ℕ → List ℕ → Pair
pair_made (ValuesOnce values) seat held =
    record { seat = seat; lower_value = values.lower; higher_value = values.higher; lower = take signature_length held; higher = drop signature_length held }
pair_made ValuesEach seat held = record {
  seat = seat;
  lower_value = part pair_lower_value_at value_length held;
  higher_value = part pair_higher_value_at value_length held;
  lower = part pair_lower_at signature_length held;
  higher = drop pair_higher_at held;
}

unfoldable pub evidence_form : PackForm → Form Pair
evidence_form form = record {
  start = pack_start form;
  command = pair_command form;
  held = pair_held form;
  seat = λ (p : Pair). p.seat;
  bytes = pair_bytes form;
  make = pair_made form;
}

-- the values before the count have their length
abbrev pub ValuesFormed : PackForm → Type 0
ValuesFormed (ValuesOnce values) = (length values.lower ≡ value_length) × (length values.higher ≡ value_length)
ValuesFormed ValuesEach = Unit {0}

-- ---- the bytes of a message

-- "Each starts with a one-byte command, then operands of fixed widths"
unfoldable pub render : Message → List ℕ
render (Submit round seat value signature) = 0x01 ∷ be 2 round ++ seat ∷ [] ++ value ++ signature
render (Notice round seat value) = 0x02 ∷ be 2 round ++ seat ∷ [] ++ value
render (Full round sender value entries) = 0x03 ∷ be 2 round ++ sender ∷ [] ++ value ++ length entries ∷ [] ++ render_entries full_form entries
render (Evidence round form entries) = pack_command form ∷ be 2 round ++ pack_values form ++ length entries ∷ [] ++ render_entries (evidence_form form) entries
render Garbled = []

-- a message that can be written in a fleet of n seats: operands of their widths, and as many entries as the documents say
abbrev pub WellFormed : ℕ → Message → Type 0
WellFormed n (Submit round seat value signature) = (round < 65536) × (length value ≡ value_length) × (length signature ≡ signature_length)
WellFormed n (Notice round seat value) = (round < 65536) × (length value ≡ value_length)
WellFormed n (Full round sender value es) = (round < 65536) × (length value ≡ value_length) × (length es ≡ k n) × Laid full_form es
WellFormed n (Evidence round form ps) =
    (round < 65536) × ValuesFormed form × (1 ≤ length ps) × (length ps ≤ n) × Laid (evidence_form form) ps
WellFormed n Garbled = ⊥

-- "Messages go to `out` one after another"
unfoldable pub render_all : List Message → List ℕ
render_all [] = []
render_all (m ∷ ms) = render m ++ render_all ms

-- ---- the message in given bytes

-- the round, two bytes after the command
unfoldable pub read_round : List ℕ → ℕ
read_round bytes = byte_at bytes round_at * 256 + byte_at bytes (round_at + 1)

unfoldable pub read_value : ℕ → List ℕ → List ℕ
read_value at bytes = part at value_length bytes

unfoldable pub read_signature : ℕ → List ℕ → List ℕ
read_signature at bytes = part at signature_length bytes

-- the two values in the bytes of an old EVIDENCE
abbrev pub read_values : List ℕ → PairValues
read_values bytes = record { lower = read_value lower_at bytes; higher = read_value higher_at bytes }

-- the form of an EVIDENCE in given bytes, by its command; the form of its entries, and their count
unfoldable pub pack_in : List ℕ → PackForm
pack_in bytes = cond (eqb (byte_at bytes 0) 0x05) (ValuesOnce (read_values bytes)) ValuesEach

abbrev pub form_of : List ℕ → Form Pair
form_of bytes = evidence_form (pack_in bytes)

abbrev pub count_of : List ℕ → ℕ
count_of bytes = byte_at bytes (pack_count_at (pack_in bytes))

-- the bytes are those of a command: its code, length, count and entry commands are right. A byte past the end counts
-- as 0, which is no command and no count.
unfoldable pub fits_submit : List ℕ → Bool
fits_submit bytes = eqb (length bytes) submit_length && eqb (byte_at bytes 0) 0x01

unfoldable pub fits_notice : List ℕ → Bool
fits_notice bytes = eqb (length bytes) notice_length && eqb (byte_at bytes 0) 0x02

unfoldable pub fits_full : ℕ → List ℕ → Bool
fits_full n bytes = eqb (length bytes) (full_length n) && eqb (byte_at bytes 0) 0x03 && eqb (byte_at bytes full_count_at) (k n) && entry_commands full_form (k n) bytes

unfoldable pub fits_evidence : ℕ → List ℕ → Bool
fits_evidence n bytes =
    let count = count_of bytes in
    eqb (byte_at bytes 0) (pack_command (pack_in bytes))
    && leb 1 count
    && leb count n
    && eqb (length bytes) (place_of (form_of bytes) count)
    && entry_commands (form_of bytes) count bytes

unfoldable pub read_submit : List ℕ → Message
read_submit bytes = Submit (read_round bytes) (byte_at bytes seat_at) (read_value value_at bytes) (read_signature submit_signature_at bytes)

unfoldable pub read_notice : List ℕ → Message
read_notice bytes = Notice (read_round bytes) (byte_at bytes seat_at) (read_value value_at bytes)

unfoldable pub read_full : ℕ → List ℕ → Message
read_full n bytes = Full (read_round bytes) (byte_at bytes seat_at) (read_value value_at bytes) (read_entries full_form (k n) bytes)

unfoldable pub read_evidence : List ℕ → Message
read_evidence bytes = Evidence (read_round bytes) (pack_in bytes) (read_entries (form_of bytes) (count_of bytes) bytes)

-- the message in these bytes, in a fleet of n seats
unfoldable pub read : ℕ → List ℕ → Message
read n bytes =
    cond (fits_submit bytes) (read_submit bytes)
    (cond (fits_notice bytes) (read_notice bytes)
    (cond (fits_full n bytes) (read_full n bytes)
    (cond (fits_evidence n bytes) (read_evidence bytes)
    Garbled)))

-- ---- the operands of a message, whatever its command

unfoldable pub round_of : Message → ℕ
round_of (Submit round seat value signature) = round
round_of (Notice round seat value) = round
round_of (Full round sender value entries) = round
round_of (Evidence round form entries) = round
round_of Garbled = 0

-- the seats of the entries, in their order
unfoldable pub entry_seats : Message → List ℕ
entry_seats (Submit round seat value signature) = []
entry_seats (Notice round seat value) = []
entry_seats (Full round sender value entries) = form_seats full_form entries
entry_seats (Evidence round form entries) = form_seats (evidence_form form) entries
entry_seats Garbled = []

-- every seat: the sender's, where there is one, and those of the entries
unfoldable pub seats_of : Message → List ℕ
seats_of (Submit round seat value signature) = seat ∷ []
seats_of (Notice round seat value) = seat ∷ []
seats_of (Full round sender value entries) = sender ∷ entry_seats (Full round sender value entries)
seats_of (Evidence round form entries) = entry_seats (Evidence round form entries)
seats_of Garbled = []

-- a signature in a message, with its seat and its value
pub record Signed : Type 0 where
  pub seat : ℕ
  pub value : List ℕ
  pub signature : List ℕ

-- an entry's one, over the message's value, and a pair's two, over its own values
unfoldable pub signed_entry : List ℕ → Entry → List Signed
signed_entry value e = record { seat = e.seat; value = value; signature = e.signature } ∷ []

unfoldable pub signed_pair : Pair → List Signed
signed_pair p =
    record { seat = p.seat; value = p.lower_value; signature = p.lower }
    ∷ record { seat = p.seat; value = p.higher_value; signature = p.higher }
    ∷ []

-- every signature of a message, entry by entry
unfoldable pub signed : Message → List Signed
signed (Submit round seat value signature) = record { seat = seat; value = value; signature = signature } ∷ []
signed (Notice round seat value) = []
signed (Full round sender value entries) = flat_map (signed_entry value) entries
signed (Evidence round form entries) = flat_map signed_pair entries
signed Garbled = []
