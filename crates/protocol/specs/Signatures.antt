-- A seat's signature in a round, and the calls of document 01 on keys and signatures, each as a function of its arguments.
use Rattle.std.specs.Prelude.{ℕ, Bool, cond, ◌&&◌, List, [], ◌∷◌, ◌++◌, eqb}
use Rattle.octets.specs.Octets.{part}
use Rattle.refusal.specs.Refusal.{first_of, unrefused}
use Rattle.rfc8554.specs.Ots.{u8str, u16str}
use Rattle.rfc8554.specs.Tree.{public_key, tree_filled, lms_signature}
use Rattle.rfc8554.specs.Verify.{leaf_of, valid}
use Rattle.protocol.specs.Layout.{key_length, key_at}
use Rattle.protocol.specs.Refusals.{check_conditions, make_key_conditions, sign_conditions}

-- ---- a seat's signature in a round

-- "A seat signs 36 bytes: 0x01, round (2), seat (1), value (32)."
unfoldable pub signed_bytes : ℕ → ℕ → List ℕ → List ℕ
signed_bytes round seat value = 0x01 ∷ u16str round ++ u8str seat ++ value

-- the seat's key in the key table
unfoldable pub seat_key : List ℕ → ℕ → List ℕ
seat_key keys seat = part (key_at seat) key_length keys

-- "RFC 8554 accepts it under that seat's key for the 36 bytes of the round, that seat and that layout, and its leaf is
-- the round"
unfoldable pub checks : List ℕ → ℕ → ℕ → List ℕ → List ℕ → Bool
checks keys round seat value signature =
    valid (seat_key keys seat) (signed_bytes round seat value) signature && eqb (leaf_of signature) round

-- the refusal number of signatures that are accepted or not: "one doesn't check, or its leaf isn't the round" is 14
unfoldable pub signature_number : Bool → ℕ
signature_number accepted = cond accepted 0 14

-- ---- the stand-alone check: key, message, signature

unfoldable pub check_signature : List ℕ → List ℕ → List ℕ → ℕ
check_signature key message signature = first_of (check_conditions key message signature)

-- ---- the key maker, for types 6 and 4: the public key is written, and the tree filled

-- its result: the refusal number or 0, the bytes written, and the tree afterwards
pub record MadeKey : Type 0 where
  pub refusal : ℕ
  pub written : List ℕ
  pub tree : List ℕ

-- its refusal number: seed, I, tree, out
unfoldable pub make_key_refusal : List ℕ → List ℕ → List ℕ → List ℕ → ℕ
make_key_refusal seed I tree out = first_of (make_key_conditions seed I tree out)

-- the key maker: seed, I, tree, out
unfoldable pub make_key : List ℕ → List ℕ → List ℕ → List ℕ → MadeKey
make_key seed I tree out =
    let n = make_key_refusal seed I tree out in
    record { refusal = n; written = unrefused n (public_key 6 4 I seed) []; tree = unrefused n (tree_filled I seed tree) tree }

-- ---- the signer, for types 6 and 4: the path is read from the tree as it is lent

-- its result: the refusal number or 0, and the bytes written
pub record MadeSignature : Type 0 where
  pub refusal : ℕ
  pub written : List ℕ

-- its refusal number: leaf, message, seed, I, randomizer, tree, out
unfoldable pub sign_refusal : ℕ → List ℕ → List ℕ → List ℕ → List ℕ → List ℕ → List ℕ → ℕ
sign_refusal leaf message seed I C tree out = first_of (sign_conditions leaf message seed I C tree out)

-- the signer: leaf, message, seed, I, randomizer, tree, out
unfoldable pub sign : ℕ → List ℕ → List ℕ → List ℕ → List ℕ → List ℕ → List ℕ → MadeSignature
sign leaf message seed I C tree out =
    let n = sign_refusal leaf message seed I C tree out in
    record { refusal = n; written = unrefused n (lms_signature 6 4 I leaf seed C message tree) [] }
