-- The conditions of document 01's table "What is turned back", in its order. The table itself is in `Refusals`.
-- Assumes nothing.
use Rattle.std.specs.Prelude.{ℕ, ◌+◌, ◌*◌, Bool, true, false, not, ◌&&◌, ◌||◌, List, [], ◌∷◌, ltb, eqb, length}
use Rattle.octets.specs.Octets.{word_at}
use Rattle.octets.specs.Strings.{same}
use Rattle.rfc8554.specs.Ots.{known_ots}
use Rattle.rfc8554.specs.Tree.{known_lms}
use Rattle.rfc8554.specs.Verify.{lms_type_of, ots_type_of}
use Rattle.protocol.specs.Layout.{value_length, signature_length, key_length, key_at, tree_length, message_limit, store_length}
use Rattle.protocol.specs.Values.{is_lower}
use Rattle.protocol.specs.Entries.{each_below}
use Rattle.protocol.specs.Message.{Pair, ValuesOnce, ValuesEach, Message, Submit, Notice, Full, Evidence, Garbled, Signed, round_of, entry_seats, seats_of, signed}
use Rattle.protocol.specs.Certificate.{certificate_in}
use Rattle.protocol.specs.declared.Record.{Record}

-- whether a signature checks for a seat over a value in the round, under the key table: seat, value and signature
abbrev pub Checks : Type 0
Checks = ℕ → List ℕ → List ℕ → Bool

-- the test holds for every element
unfoldable pub every {ℓ} : {A : Type ℓ} → (A → Bool) → List A → Bool
every test [] = true
every test (x ∷ xs) = test x && every test xs

-- 1, 2, 3 and 4 are in `Record`

-- 5: "key table not 56 × n bytes or a type not allowed". "LMS_SHA256_M32_H10 (type 6) with LMOTS_SHA256_N32_W8 (type 4)"
unfoldable pub key_allowed : ℕ → List ℕ → Bool
key_allowed seat keys = eqb (word_at keys (key_at seat)) 6 && eqb (word_at keys (key_at seat + 4)) 4

unfoldable pub keys_allowed : ℕ → List ℕ → Bool
keys_allowed n keys = each_below (λ (seat : ℕ). key_allowed seat keys) n

unfoldable pub wrong_keys : ℕ → List ℕ → Bool
wrong_keys n keys = not (eqb (length keys) (key_length * n)) || not (keys_allowed n keys)

-- a length other than n
abbrev pub length_isnt : ℕ → List ℕ → Bool
length_isnt n xs = not (eqb (length xs) n)

-- "The stand-alone check takes one key of 56 bytes"; it "also takes height 5 (type 5) and width 4 (type 3), in any pairing"
unfoldable pub wrong_key : List ℕ → Bool
wrong_key key = length_isnt key_length key || not (known_lms (lms_type_of key)) || not (known_ots (ots_type_of key))

-- 6: "too short"
unfoldable pub short_store : ℕ → List ℕ → Bool
short_store n store = ltb (length store) (store_length n)

-- 7: "shorter than the length stated for the call"
unfoldable pub short_out : ℕ → List ℕ → Bool
short_out stated out = ltb (length out) stated

-- 8: "submit a second time"
unfoldable pub said : Record → Bool
said r = r.own.submitted

-- 9: "wrong command, length (of submit's value or signature too), count or entry command". "A step takes 0x01 to 0x03;
-- EVIDENCE goes to its own check, and to a step it is a wrong command."
unfoldable pub is_for_step : Message → Bool
is_for_step (Submit round seat value signature) = true
is_for_step (Notice round seat value) = true
is_for_step (Full round sender value entries) = true
is_for_step (Evidence round form entries) = false
is_for_step Garbled = false

unfoldable pub is_full : Message → Bool
is_full (Submit round seat value signature) = false
is_full (Notice round seat value) = false
is_full (Full round sender value entries) = true
is_full (Evidence round form entries) = false
is_full Garbled = false

unfoldable pub is_evidence : Message → Bool
is_evidence (Submit round seat value signature) = false
is_evidence (Notice round seat value) = false
is_evidence (Full round sender value entries) = false
is_evidence (Evidence round form entries) = true
is_evidence Garbled = false

-- "Two accepted 0x07 packs .. become one", "and a 0x05 pack is 9 here" (document 02, item 5)
unfoldable pub is_new_evidence : Message → Bool
is_new_evidence (Submit round seat value signature) = false
is_new_evidence (Notice round seat value) = false
is_new_evidence (Full round sender value entries) = false
is_new_evidence (Evidence round (ValuesOnce values) entries) = false
is_new_evidence (Evidence round ValuesEach entries) = true
is_new_evidence Garbled = false

unfoldable pub wrong_lengths : List ℕ → List ℕ → Bool
wrong_lengths value signature = length_isnt value_length value || length_isnt signature_length signature

-- "a message too long to check or sign"
abbrev pub too_long : List ℕ → Bool
too_long message = ltb message_limit (length message)

-- 10: "round is not the caller's"
unfoldable pub other_round : ℕ → Message → Bool
other_round round m = not (eqb (round_of m) round)

-- 11: "any seat in a message at or above n"
unfoldable pub stranger : ℕ → Message → Bool
stranger n m = not (every (λ (seat : ℕ). ltb seat n) (seats_of m))

-- 12: "entry seats don't rise"
unfoldable pub rising : List ℕ → Bool
rising [] = true
rising (a ∷ []) = true
rising (a ∷ b ∷ rest) = ltb a b && rising (b ∷ rest)

unfoldable pub disorder : Message → Bool
disorder m = not (rising (entry_seats m))

-- 14: "one doesn't check, or its leaf isn't the round"; every signature that the call is given is checked
unfoldable pub bad_signature : Checks → Message → Bool
bad_signature checks m = not (every (λ (s : Signed). checks s.seat s.value s.signature) (signed m))

-- 15: "evidence whose values are equal or not lower first; two certificates with equal values". "An entry whose values are equal or not
-- lower first is 15." (document 02, item 3)
unfoldable pub lower_first : Pair → Bool
lower_first p = is_lower p.lower_value p.higher_value

unfoldable pub not_lower_first : Message → Bool
not_lower_first (Submit round seat value signature) = false
not_lower_first (Notice round seat value) = false
not_lower_first (Full round sender value entries) = false
not_lower_first (Evidence round form entries) = not (every lower_first entries)
not_lower_first Garbled = false

unfoldable pub equal_values : Message → Message → Bool
equal_values a b = same (certificate_in a).value (certificate_in b).value

-- 16: "seed not 32, I not 16, randomizer not 32 or tree not 65,536 bytes"; the key maker takes no randomizer
abbrev pub wrong_maker_material : List ℕ → List ℕ → List ℕ → Bool
wrong_maker_material seed I tree = length_isnt 32 seed || length_isnt 16 I || length_isnt tree_length tree

abbrev pub wrong_signer_material : List ℕ → List ℕ → List ℕ → List ℕ → Bool
wrong_signer_material seed I C tree = length_isnt 32 seed || length_isnt 16 I || length_isnt 32 C || length_isnt tree_length tree
