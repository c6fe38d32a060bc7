-- One pack from two (document 02, item 5). A pack is an EVIDENCE of the form 0x07, with a pair of signatures for each of its seats.
-- Assumes nothing.
use Rattle.std.specs.Prelude.{ℕ, cond, List, [], ◌∷◌, map, eqb}
use Rattle.quorum.specs.Quorum.{has, union, seats}
use Rattle.protocol.specs.Message.{Pair, ValuesEach, Message, Submit, Notice, Full, Evidence, Garbled, entry_seats}
use Rattle.protocol.specs.Certificate.{set_of}

-- the entries of a pack; no other message has any
unfoldable pub pairs_in : Message → List Pair
pairs_in (Submit round seat value signature) = []
pairs_in (Notice round seat value) = []
pairs_in (Full round sender value entries) = []
pairs_in (Evidence round form entries) = entries
pairs_in Garbled = []

-- the pair of a seat among entries
unfoldable pub pair_among : List Pair → ℕ → Pair
pair_among [] seat = record { seat = seat; lower_value = []; higher_value = []; lower = []; higher = [] }
pair_among (p ∷ ps) seat = cond (eqb p.seat seat) p (pair_among ps seat)

-- the set of a pack's seats
abbrev pub pack_set : Message → ℕ
pack_set m = set_of (entry_seats m)

-- "a seat found in both has the pair of the pack named first"
unfoldable pub joined_pair : Message → Message → ℕ → Pair
joined_pair first second seat = cond (has seat (pack_set first)) (pair_among (pairs_in first) seat) (pair_among (pairs_in second) seat)

-- "the seats of either, rising"
unfoldable pub joined_pairs : ℕ → Message → Message → List Pair
joined_pairs n first second = map (joined_pair first second) (seats n (union (pack_set first) (pack_set second)))

-- "Two accepted 0x07 packs .. become one"
unfoldable pub joined_of : ℕ → ℕ → Message → Message → Message
joined_of n round first second = Evidence round ValuesEach (joined_pairs n first second)
