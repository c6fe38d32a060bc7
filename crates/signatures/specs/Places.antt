-- Places of signatures in a message, each with the place of the value that it signs.
-- Assumes nothing.
use Rattle.std.specs.Prelude.{Bool, ◌&&◌, List, ℕ, ◌+◌, ◌≤◌, ◌<◌, length}
use Rattle.protocol.specs.Layout.{value_length, signature_length, entry_seat_at, entry_held_at, pair_lower_at, lower_at}
use Rattle.protocol.specs.Message as message
use Rattle.protocol.specs.Message.{PackForm, ValuesOnce, ValuesEach, pack_in, byte_at, read_value, read_signature}
use Rattle.protocol.specs.Refusals.{Checks}
use Rattle.wire.specs.Reading.{command_place, pack_entries}
use Rattle.signatures.specs.declared.verdicts.Place.{Place}
use Rattle.signatures.specs.declared.verdicts.Pair.{Pair}

-- value and signature lie in the message
abbrev pub PlaceInside : Place → List ℕ → Type 0
PlaceInside p bytes = (p.value + value_length ≤ length bytes) × (p.signature + signature_length ≤ length bytes)

abbrev pub PairInside : ℕ → Pair → List ℕ → Type 0
PairInside n p bytes = (p.seat < n) × PlaceInside p.lower bytes × PlaceInside p.higher bytes

-- the signature checks for a seat over its value; and both signatures of a pair do
abbrev pub place_checks : Checks → List ℕ → ℕ → Place → Bool
place_checks checks bytes seat p = checks seat (read_value p.value bytes) (read_signature p.signature bytes)

abbrev pub pair_checks : Checks → List ℕ → Pair → Bool
pair_checks checks bytes p = place_checks checks bytes p.seat p.lower && place_checks checks bytes p.seat p.higher

-- the pair of EVIDENCE at given places
abbrev pub pair_read : List ℕ → Pair → message.Pair
pair_read bytes p = record {
  seat = p.seat;
  lower_value = read_value p.lower.value bytes;
  higher_value = read_value p.higher.value bytes;
  lower = read_signature p.lower.signature bytes;
  higher = read_signature p.higher.signature bytes;
}

-- a seat's pair over two values, one after the other, with their signatures in the same order
abbrev pub pair_from : ℕ → ℕ → ℕ → Pair
pair_from seat values signatures = record {
  seat = seat;
  lower = record { value = values; signature = signatures };
  higher = record { value = values + value_length; signature = signatures + signature_length };
}

-- the pair in an entry of EVIDENCE: "0x08, seat 1, lower value 32, higher value 32 and their signatures in that order" (document 02, item
-- 3); in the old one, over the values of the message, "0x06, seat 1, the signature over the lower value, the signature over the higher"
abbrev pub pair_places : PackForm → List ℕ → ℕ → Pair
pair_places (ValuesOnce values) bytes at = pair_from (byte_at bytes (at + entry_seat_at)) lower_at (at + entry_held_at)
pair_places ValuesEach bytes at = pair_from (byte_at bytes (at + entry_seat_at)) (at + entry_held_at) (at + entry_held_at + pair_lower_at)

-- and the one at an index from 0
abbrev pub pair_in : List ℕ → ℕ → Pair
pair_in bytes i = pair_places (pack_in bytes) bytes (command_place (pack_entries bytes) i)
