-- "What is turned back" (document 01; document 02, items 2, 3 and 5): the table's numbers, words and conditions in its order, and for each call
-- the list of its rows, of which the first that holds is answered. The conditions in full are in `Conditions`, `Record` and `Note`;
-- those of `Conditions` are exported from here too.
-- Assumes nothing.
unfoldable pub use Rattle.protocol.specs.Conditions.{Checks, every, key_allowed, keys_allowed, wrong_keys, length_isnt, wrong_key, short_store, short_out, said, is_for_step, is_full, is_evidence, is_new_evidence, wrong_lengths, too_long, other_round, stranger, rising, disorder, bad_signature, lower_first, not_lower_first, equal_values, wrong_maker_material, wrong_signer_material}
use Rattle.std.specs.Prelude.{ℕ, Bool, not, List, [], ◌∷◌, ◌++◌}
use Rattle.rfc8554.specs.Verify.{valid}
use Rattle.protocol.specs.Layout.{key_length, signature_length, out_length, evidence_out_length, joined_out_length, note_length}
use Rattle.protocol.specs.Message.{Message, Submit}
use Rattle.protocol.specs.Record.{wrong_size, wrong_seat, wrong_round, impossible}
use Rattle.protocol.specs.Note.{note_record, wrong_note}
use Rattle.protocol.specs.declared.Record.{Record}

-- a row of a call: the number, and whether its condition holds
abbrev pub Condition : Type 0
Condition = ℕ × Bool

-- ---- the table

-- 1, size: "n outside 1 to 32"
abbrev pub SIZE : ℕ → Condition
SIZE n = (1, wrong_size n)

-- 2, seat: "own seat at or above n (opening)"
abbrev pub SEAT : ℕ → ℕ → Condition
SEAT n seat = (2, wrong_seat n seat)

-- 3, round: "a round or leaf above 1,023"
abbrev pub ROUND : ℕ → Condition
ROUND round = (3, wrong_round round)

-- 17, note: "when the length isn't 118, the command isn't 0x20, both heard flags or an unknown flag are set; .. it comes before 4"
-- (document 02, item 2)
abbrev pub NOTE : List ℕ → Condition
NOTE note = (17, wrong_note note)

-- 4, record: "impossible record"
abbrev pub RECORD : Record → Condition
RECORD r = (4, impossible r)

-- 5, keys: "key table not 56 × n bytes or a type not allowed"; "The stand-alone check takes one key of 56 bytes"
abbrev pub KEYS : ℕ → List ℕ → Condition
KEYS n keys = (5, wrong_keys n keys)

abbrev pub KEY : List ℕ → Condition
KEY key = (5, wrong_key key)

-- 6, store: "too short"
abbrev pub STORE : ℕ → List ℕ → Condition
STORE n store = (6, short_store n store)

-- 7, out: "shorter than the length stated for the call"
abbrev pub OUT : ℕ → List ℕ → Condition
OUT stated out = (7, short_out stated out)

-- 8, said: "submit a second time"
abbrev pub SAID : Record → Condition
SAID r = (8, said r)

-- 9, garbled: "wrong command, length (of submit's value or signature too), count or entry command; a message too long to check
-- or sign": a message that the call doesn't take; submit's value and signature; a message of bytes
abbrev pub GARBLED : Bool → Condition
GARBLED taken = (9, not taken)

abbrev pub GARBLED_OWN : List ℕ → List ℕ → Condition
GARBLED_OWN value signature = (9, wrong_lengths value signature)

abbrev pub GARBLED_LONG : List ℕ → Condition
GARBLED_LONG message = (9, too_long message)

-- 10, other round: "round is not the caller's"
abbrev pub OTHER_ROUND : ℕ → Message → Condition
OTHER_ROUND round m = (10, other_round round m)

-- 11, stranger: "any seat in a message at or above n"
abbrev pub STRANGER : ℕ → Message → Condition
STRANGER n m = (11, stranger n m)

-- 12, disorder: "entry seats don't rise"
abbrev pub DISORDER : Message → Condition
DISORDER m = (12, disorder m)

-- "Number 13 no longer occurs" (document 02, item 1)

-- 14, signature: "one doesn't check, or its leaf isn't the round"; in the stand-alone check "a signature whose length, types or
-- leaf don't fit its key is 14"
abbrev pub SIGNATURE : Checks → Message → Condition
SIGNATURE checks m = (14, bad_signature checks m)

abbrev pub SIGNATURE_ALONE : List ℕ → List ℕ → List ℕ → Condition
SIGNATURE_ALONE key message signature = (14, not (valid key message signature))

-- 15, no conflict: "evidence whose values are equal or not lower first; two certificates with equal values", and "An entry whose values
-- are equal or not lower first is 15." (document 02, item 3)
abbrev pub NO_CONFLICT_IN : Message → Condition
NO_CONFLICT_IN m = (15, not_lower_first m)

abbrev pub NO_CONFLICT_BETWEEN : Message → Message → Condition
NO_CONFLICT_BETWEEN a b = (15, equal_values a b)

-- 16, key material: "seed not 32, I not 16, randomizer not 32 or tree not 65,536 bytes"; the key maker's, and the signer's
abbrev pub KEY_MATERIAL : List ℕ → List ℕ → List ℕ → Condition
KEY_MATERIAL seed I tree = (16, wrong_maker_material seed I tree)

abbrev pub KEY_MATERIAL_SIGNING : List ℕ → List ℕ → List ℕ → List ℕ → Condition
KEY_MATERIAL_SIGNING seed I C tree = (16, wrong_signer_material seed I C tree)

-- ---- rows of several calls

-- "Numbers 1 and 3 are about what a call is given outside a record and a message": n, round and key table
unfoldable pub outside_conditions : ℕ → ℕ → List ℕ → List Condition
outside_conditions n round keys = SIZE n ∷ ROUND round ∷ KEYS n keys ∷ []

-- "inside a record it is 4": record, key table, store and out
unfoldable pub record_conditions : List ℕ → Record → List ℕ → List ℕ → List Condition
record_conditions keys r store out = RECORD r ∷ KEYS r.n keys ∷ STORE r.n store ∷ OUT (out_length r.n) out ∷ []

-- a message's 9 to 14, for any call: whether the call takes it (else it is garbled)
unfoldable pub message_conditions : Checks → ℕ → ℕ → Bool → Message → List Condition
message_conditions checks n round taken m =
    GARBLED taken ∷ OTHER_ROUND round m ∷ STRANGER n m ∷ DISORDER m ∷ SIGNATURE checks m ∷ []

-- one certificate's
unfoldable pub certificate_conditions : Checks → ℕ → ℕ → Message → List Condition
certificate_conditions checks n round m = message_conditions checks n round (is_full m) m

-- "over two certificates, the first one's 9 to 14 come before the second's"; then 15
unfoldable pub two_conditions : Checks → ℕ → ℕ → Message → Message → List Condition
two_conditions checks n round a b =
    certificate_conditions checks n round a ++ certificate_conditions checks n round b ++ NO_CONFLICT_BETWEEN a b ∷ []

-- a pack's 9 to 15, for any call: whether the call takes it
unfoldable pub pack_conditions : Checks → ℕ → ℕ → Bool → Message → List Condition
pack_conditions checks n round taken m = message_conditions checks n round taken m ++ NO_CONFLICT_IN m ∷ []

-- one pack's, where two are joined: "a 0x05 pack is 9 here" (document 02, item 5)
unfoldable pub joined_conditions : Checks → ℕ → ℕ → Message → List Condition
joined_conditions checks n round m = pack_conditions checks n round (is_new_evidence m) m

-- ---- the calls

-- opening: 1, 2, 3, 5
unfoldable pub opening_conditions : ℕ → ℕ → ℕ → List ℕ → List Condition
opening_conditions n seat round keys = SIZE n ∷ SEAT n seat ∷ ROUND round ∷ KEYS n keys ∷ []

-- submit: 4, 5, 6, 7, 8, 9, 14
unfoldable pub submit_conditions : Checks → List ℕ → Record → List ℕ → List ℕ → List ℕ → List ℕ → List Condition
submit_conditions checks keys r store value signature out =
    record_conditions keys r store out
    ++ SAID r ∷ GARBLED_OWN value signature ∷ SIGNATURE checks (Submit r.round r.seat value signature) ∷ []

-- a step: 4, 5, 6, 7, 9, 10, 11, 12, 14
unfoldable pub step_conditions : Checks → List ℕ → Record → List ℕ → Message → List ℕ → List Condition
step_conditions checks keys r store m out =
    record_conditions keys r store out ++ message_conditions checks r.n r.round (is_for_step m) m

-- the evidence check: 1, 3, 5, 9, 10, 11, 12, 14, 15
unfoldable pub evidence_conditions : Checks → ℕ → ℕ → List ℕ → Message → List Condition
evidence_conditions checks n round keys m = outside_conditions n round keys ++ pack_conditions checks n round (is_evidence m) m

-- evidence from two certificates: 1, 3, 5, 7, then those of the two
unfoldable pub making_conditions : Checks → ℕ → ℕ → List ℕ → Message → Message → List ℕ → List Condition
making_conditions checks n round keys a b out =
    outside_conditions n round keys ++ OUT (evidence_out_length n) out ∷ [] ++ two_conditions checks n round a b

-- the lower certificate, which has no out buffer: 1, 3, 5, then those of the two
unfoldable pub lower_conditions : Checks → ℕ → ℕ → List ℕ → Message → Message → List Condition
lower_conditions checks n round keys a b = outside_conditions n round keys ++ two_conditions checks n round a b

-- two packs joined: 1, 3, 5, 7, then 9 to 15, "the first pack's before the second's" (document 02, item 5)
unfoldable pub joining_conditions : Checks → ℕ → ℕ → List ℕ → Message → Message → List ℕ → List Condition
joining_conditions checks n round keys a b out =
    outside_conditions n round keys ++ OUT (joined_out_length n) out ∷ [] ++ joined_conditions checks n round a ++ joined_conditions checks n round b

-- the stand-alone check: 5, 9, 14
unfoldable pub check_conditions : List ℕ → List ℕ → List ℕ → List Condition
check_conditions key message signature = KEY key ∷ GARBLED_LONG message ∷ SIGNATURE_ALONE key message signature ∷ []

-- the key maker: 7, 16
unfoldable pub make_key_conditions : List ℕ → List ℕ → List ℕ → List ℕ → List Condition
make_key_conditions seed I tree out = OUT key_length out ∷ KEY_MATERIAL seed I tree ∷ []

-- the signer: 3, 7, 9, 16
unfoldable pub sign_conditions : ℕ → List ℕ → List ℕ → List ℕ → List ℕ → List ℕ → List ℕ → List Condition
sign_conditions leaf message seed I C tree out =
    ROUND leaf ∷ OUT signature_length out ∷ GARBLED_LONG message ∷ KEY_MATERIAL_SIGNING seed I C tree ∷ []

-- writing a note: 4, 7
unfoldable pub write_note_conditions : Record → List ℕ → List Condition
write_note_conditions r out = RECORD r ∷ OUT note_length out ∷ []

-- reading a note: 17, 4
unfoldable pub read_note_conditions : List ℕ → List Condition
read_note_conditions note = NOTE note ∷ RECORD (note_record note) ∷ []
