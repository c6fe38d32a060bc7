-- Lengths and places in bytes (document 01, "Signatures", "Commands on the air" and "A unit's record and store"; document 02, items 1
-- to 3).
-- Each is made of its parts; the documents' figures follow from them, in `Figures`.
-- Assumes nothing.
use Rattle.std.specs.Prelude.{ℕ, zero, suc, ◌+◌, ◌*◌, List, [], ◌∷◌}
use Rattle.quorum.specs.Quorum.{k}

-- ---- the parts

-- "a value is 32 bytes"
abbrev pub value_length : ℕ
value_length = 32

-- "Signature: 1,452 bytes."
unfoldable pub signature_length : ℕ
signature_length = 1452

-- "Public key: 56 bytes"
abbrev pub key_length : ℕ
key_length = 56

-- place of a seat's key in the key table
abbrev pub key_at : ℕ → ℕ
key_at seat = key_length * seat

-- "a tree of 65,536 bytes"
unfoldable pub tree_length : ℕ
tree_length = 65536

-- "a message of up to 65,535 bytes"
unfoldable pub message_limit : ℕ
message_limit = 65535

-- ---- commands: "Each starts with a one-byte command, then operands of fixed widths", "round 2" first of them

abbrev pub round_at : ℕ
round_at = 1

-- place of the first operand after the round
abbrev pub operands_at : ℕ
operands_at = round_at + 2

-- SUBMIT, NOTICE and FULL: "round 2, seat 1, value 32"
abbrev pub seat_at : ℕ
seat_at = operands_at

abbrev pub value_at : ℕ
value_at = seat_at + 1

-- NOTICE ends with its value
unfoldable pub notice_length : ℕ
notice_length = value_at + value_length

-- SUBMIT: ".., value 32, signature 1,452"
abbrev pub submit_signature_at : ℕ
submit_signature_at = value_at + value_length

unfoldable pub submit_length : ℕ
submit_length = submit_signature_at + signature_length

-- ---- lists of entries: each entry has a command, a seat, and bytes that it holds

-- places of an entry's seat and of its bytes, from its start
abbrev pub entry_seat_at : ℕ
entry_seat_at = 1

abbrev pub entry_held_at : ℕ
entry_held_at = entry_seat_at + 1

-- length of an entry that holds `held` bytes
abbrev pub entry_length : ℕ → ℕ
entry_length held = entry_held_at + held

-- place of an entry, by its index from 0, in a list that starts at `start`
abbrev pub entry_at : ℕ → ℕ → ℕ → ℕ
entry_at start length i = start + length * i

-- FULL: ".., value 32, count 1 (always k), then k entries: 0x04, seat 1, signature 1,452"
abbrev pub full_count_at : ℕ
full_count_at = value_at + value_length

abbrev pub full_start : ℕ
full_start = full_count_at + 1

unfoldable pub full_entry_length : ℕ
full_entry_length = entry_length signature_length

unfoldable pub full_entry_at : ℕ → ℕ
full_entry_at i = entry_at full_start full_entry_length i

unfoldable pub full_length : ℕ → ℕ
full_length n = full_entry_at (k n)

-- "Evidence becomes 0x07: round 2, count 1 (1 to n), then entries of 0x08, seat 1, lower value 32, higher value 32 and their
-- signatures in that order" (document 02, item 3)
abbrev pub evidence_count_at : ℕ
evidence_count_at = operands_at

abbrev pub evidence_start : ℕ
evidence_start = evidence_count_at + 1

-- places of a pair's values and signatures, from the start of the bytes that its entry holds
abbrev pub pair_lower_value_at : ℕ
pair_lower_value_at = 0

abbrev pub pair_higher_value_at : ℕ
pair_higher_value_at = pair_lower_value_at + value_length

abbrev pub pair_lower_at : ℕ
pair_lower_at = pair_higher_value_at + value_length

abbrev pub pair_higher_at : ℕ
pair_higher_at = pair_lower_at + signature_length

abbrev pub pair_length : ℕ
pair_length = pair_higher_at + signature_length

unfoldable pub evidence_entry_length : ℕ
evidence_entry_length = entry_length pair_length

unfoldable pub evidence_entry_at : ℕ → ℕ
evidence_entry_at i = entry_at evidence_start evidence_entry_length i

unfoldable pub evidence_length : ℕ → ℕ
evidence_length count = evidence_entry_at count

-- "The old 0x05 is still accepted by the check.": "round 2, lower value 32, higher value 32, count 1 (1 to n), then entries: 0x06,
-- seat 1, the signature over the lower value, the signature over the higher"
abbrev pub lower_at : ℕ
lower_at = operands_at

abbrev pub higher_at : ℕ
higher_at = lower_at + value_length

abbrev pub old_evidence_count_at : ℕ
old_evidence_count_at = higher_at + value_length

abbrev pub old_evidence_start : ℕ
old_evidence_start = old_evidence_count_at + 1

abbrev pub old_pair_length : ℕ
old_pair_length = signature_length + signature_length

unfoldable pub old_evidence_entry_length : ℕ
old_evidence_entry_length = entry_length old_pair_length

unfoldable pub old_evidence_entry_at : ℕ → ℕ
old_evidence_entry_at i = entry_at old_evidence_start old_evidence_entry_length i

unfoldable pub old_evidence_length : ℕ → ℕ
old_evidence_length count = old_evidence_entry_at count

-- ---- the store: "n slots of 1,452 for collected signatures, then n for the first certificate, each by seat"; "after the old slots,
-- n of 1,452 for kept signatures, then n values of 32" (document 02, item 1)

-- the banks one after another, each by the length of its slots
unfoldable pub banks : List ℕ
banks = signature_length ∷ signature_length ∷ signature_length ∷ value_length ∷ []

abbrev pub collected_bank : ℕ
collected_bank = 0

abbrev pub first_bank : ℕ
first_bank = 1

abbrev pub kept_bank : ℕ
kept_bank = 2

abbrev pub kept_value_bank : ℕ
kept_value_bank = 3

-- bytes of all banks for one seat
unfoldable pub length_of_banks : List ℕ → ℕ
length_of_banks [] = 0
length_of_banks (slot ∷ rest) = slot + length_of_banks rest

-- the banks before one
unfoldable pub banks_before : ℕ → List ℕ → List ℕ
banks_before bank [] = []
banks_before zero (slot ∷ rest) = []
banks_before (suc bank) (slot ∷ rest) = slot ∷ banks_before bank rest

-- length of a bank's slots
unfoldable pub slot_length_in : ℕ → List ℕ → ℕ
slot_length_in bank [] = 0
slot_length_in zero (slot ∷ rest) = slot
slot_length_in (suc bank) (slot ∷ rest) = slot_length_in bank rest

unfoldable pub slot_length : ℕ → ℕ
slot_length bank = slot_length_in bank banks

-- "the store grows to 4,388 × n bytes" (document 02, item 1), or more
unfoldable pub store_length : ℕ → ℕ
store_length n = length_of_banks banks * n

-- start of a seat's slot in a bank
unfoldable pub slot_at : ℕ → ℕ → ℕ → ℕ
slot_at n bank seat = length_of_banks (banks_before bank banks) * n + slot_length bank * seat

-- ---- out: "in the order SUBMIT, NOTICE, FULL, EVIDENCE", room for one of each

unfoldable pub out_length : ℕ → ℕ
out_length n = submit_length + notice_length + full_length n + evidence_length (k n)

-- evidence from two certificates: room for all seats that they can share
unfoldable pub evidence_out_length : ℕ → ℕ
evidence_out_length n = evidence_length (k n)

-- two packs joined: room for every seat (document 02, item 5)
unfoldable pub joined_out_length : ℕ → ℕ
joined_out_length n = evidence_length n

-- ---- the note (document 02, item 2): "0x20, n 1, seat 1, round 2, flags 1 (..), own value 32, the masks collected, kept, first
-- certificate and guilty at 4 each, then first value heard 32 and first certificate's value 32"

abbrev pub mask_length : ℕ
mask_length = 4

abbrev pub note_size_at : ℕ
note_size_at = 1

abbrev pub note_seat_at : ℕ
note_seat_at = note_size_at + 1

abbrev pub note_round_at : ℕ
note_round_at = note_seat_at + 1

abbrev pub note_flags_at : ℕ
note_flags_at = note_round_at + 2

abbrev pub note_own_value_at : ℕ
note_own_value_at = note_flags_at + 1

abbrev pub note_collected_at : ℕ
note_collected_at = note_own_value_at + value_length

abbrev pub note_kept_at : ℕ
note_kept_at = note_collected_at + mask_length

abbrev pub note_first_at : ℕ
note_first_at = note_kept_at + mask_length

abbrev pub note_guilty_at : ℕ
note_guilty_at = note_first_at + mask_length

abbrev pub note_heard_value_at : ℕ
note_heard_value_at = note_guilty_at + mask_length

abbrev pub note_first_value_at : ℕ
note_first_value_at = note_heard_value_at + value_length

unfoldable pub note_length : ℕ
note_length = note_first_value_at + value_length
