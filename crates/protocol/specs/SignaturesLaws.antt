-- Laws of the calls on keys and signatures: accepted signatures, and the results of a call, refused or not.
use Rattle.std.specs.Prelude.{◌≡◌, refl, Bool, true, false, not, ◌&&◌, ◌||◌, List, [], ◌∷◌, ℕ, suc, ◌+◌, ◌^◌, ◌≤◌, ◌<◌, eqb, ltb, length}
use Rattle.std.proofs.Common.{sym, ◌∙◌, arith, length-append}
use Rattle.std.proofs.Math.Bool.{or-true, or-false}
use Rattle.std.proofs.lemmas.Bool.{false≢true}
use borrow.Author.Tests.{le-ltb, eqb-true, not-false}
use Rattle.octets.specs.OctetsLaws.{length-be, length_part}
use Rattle.refusal.specs.Refusal.{first_of, unrefused}
use Rattle.rfc8554.specs.Ots.{chains, ots_length, known_ots, width}
use Rattle.rfc8554.specs.Tree.{known_lms, height, public_key, tree_filled, path, lms_signature}
use Rattle.rfc8554.specs.Verify.{lms_type_of, ots_type_of, leaf_of, signature_length as length_of_types, key_invalid, valid}
use Rattle.protocol.specs.Layout.{signature_length, tree_length, message_limit}
use Rattle.protocol.specs.Record.{wrong_round}
use Rattle.protocol.specs.Refusals.{short_out, wrong_key, check_conditions, make_key_conditions, sign_conditions}
use Rattle.protocol.specs.Signatures.{signature_number, check_signature, make_key_refusal, make_key, sign_refusal, sign, signed_bytes}
use Rattle.refusal.specs.RefusalLaws.{first_of-zero}
use Rattle.rfc8554.specs.VerifyLaws.{sibling-within, ancestor_within, length-lms_signature, valid-fits}

-- ---- the check

-- the number of a verdict is that of row 14
pub signature-row : (accepted : Bool) → signature_number accepted ≡ first_of ((14, not accepted) ∷ [])
unfolding signature_number first_of
signature-row true = refl
signature-row false = refl

-- a key is refused as 5 exactly where Algorithm 6 rejects it
pub key_invalid-wrong_key : (key : List ℕ) → key_invalid key ≡ wrong_key key
unfolding key_invalid wrong_key
key_invalid-wrong_key key = go (eqb (length key) 56) refl
  where
    go : (b : Bool) → eqb (length key) 56 ≡ b
        → (ltb (length key) 8 || not (known_lms (lms_type_of key)) || not (known_ots (ots_type_of key)) || not (eqb (length key) 56))
        ≡ (not (eqb (length key) 56) || not (known_lms (lms_type_of key)) || not (known_ots (ots_type_of key)))
    go true e = rw (e, eqb-true (length key) 56 e, or-false)
    go false e = rw (e, or-true)

first_false : (a b c : Bool) → (not a && b && c) ≡ true → a ≡ false
first_false true b c e = absurd (false≢true e)
first_false false b c e = refl

-- no signature is valid under a key that is refused
pub valid_key : (key message signature : List ℕ) → valid key message signature ≡ true → wrong_key key ≡ false
unfolding valid
valid_key key message signature e = sym (key_invalid-wrong_key key) ∙ first_false (key_invalid key) _ _ e

-- an accepted signature has exactly the length of its types, and its leaf stands in the tree
pub accepted-fits : (key message signature : List ℕ) → check_signature key message signature ≡ 0
    → (length signature ≡ length_of_types (height (lms_type_of key)) (width (ots_type_of key)))
    × (leaf_of signature < 2 ^ height (lms_type_of key))
unfolding check_signature check_conditions
accepted-fits key message signature e =
    let late = (first_of-zero 8 _ _ (first_of-zero 4 _ _ e).1).1 in
    valid-fits key message signature (not-false _ (first_of-zero 13 _ [] late).0)

length_six_four : length_of_types (height 6) (width 4) ≡ signature_length
unfolding length_of_types ots_length chains height width signature_length
length_six_four = refl

pub length-signed_bytes : (round seat : ℕ) (value : List ℕ) → length value ≡ 32 → length (signed_bytes round seat value) ≡ 36
unfolding signed_bytes
length-signed_bytes round seat value e = simp (length-append, length-be) (omega arith)

-- ---- the length of what the signer writes: 1,452 bytes, whatever the tree's buffer holds

module _ (I : List ℕ) (leaf : ℕ) (seed C message tree : List ℕ) (l : leaf ≤ 1023) (c : length C ≡ 32) (t : length tree ≡ 65536) where
  length-path : (i : ℕ) → i < height 6 → length (path tree (2 ^ height 6 + leaf) i) ≡ 32
  unfolding height path
  length-path i k =
      let within = ancestor_within 10 (1024 + leaf) i (omega arith) (omega arith) k in
      let beside = sibling-within 1024 _ within.0 within.1 in
      length_part _ 32 tree (omega (arith, beside.1))

  pub length-lms_signature_six_four : length (lms_signature 6 4 I leaf seed C message tree) ≡ signature_length
  length-lms_signature_six_four = length-lms_signature 6 4 I leaf seed C message tree c length-path ∙ length_six_four

-- ---- refusals of the key maker and the signer: no bytes written, and the tree as it was

pub make_key-refused : (seed I tree out : List ℕ) (n : ℕ) → make_key_refusal seed I tree out ≡ suc n
    → make_key seed I tree out ≡ record { refusal = suc n; written = []; tree = tree }
unfolding make_key unrefused
make_key-refused seed I tree out n e = rw e

pub sign-refused : (leaf : ℕ) (message seed I C tree out : List ℕ) (n : ℕ) → sign_refusal leaf message seed I C tree out ≡ suc n
    → sign leaf message seed I C tree out ≡ record { refusal = suc n; written = [] }
unfolding sign unrefused
sign-refused leaf message seed I C tree out n e = rw e

-- ---- without a refusal: the key and the tree, or the signature

module _ (seed I tree out : List ℕ) (s : length seed ≡ 32) (i : length I ≡ 16) (t : length tree ≡ 65536) where
  make_key_refusal-zero : 56 ≤ length out → make_key_refusal seed I tree out ≡ 0
  unfolding make_key_refusal make_key_conditions short_out first_of tree_length
  make_key_refusal-zero o = rw (le-ltb (length out) 56 o, s, i, t)

  pub make_key-unrefused : 56 ≤ length out
      → make_key seed I tree out ≡ record { refusal = 0; written = public_key 6 4 I seed; tree = tree_filled I seed tree }
  unfolding make_key unrefused
  make_key-unrefused o = rw (make_key_refusal-zero o)

  module _ (leaf : ℕ) (message C : List ℕ) (l : leaf ≤ 1023) (m : length message ≤ 65535) (c : length C ≡ 32) where
    sign_refusal-zero : signature_length ≤ length out → sign_refusal leaf message seed I C tree out ≡ 0
    unfolding sign_refusal sign_conditions wrong_round short_out first_of tree_length message_limit
    sign_refusal-zero o = rw (le-ltb 1023 leaf l, le-ltb (length out) signature_length o, le-ltb 65535 (length message) m, s, i, c, t)

    pub sign-unrefused : signature_length ≤ length out
        → sign leaf message seed I C tree out ≡ record { refusal = 0; written = lms_signature 6 4 I leaf seed C message tree }
    unfolding sign unrefused
    sign-unrefused o = rw (sign_refusal-zero o)
