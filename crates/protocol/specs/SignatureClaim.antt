-- "Signatures are RFC 8554's: what the signer writes with one seed, identifier and the tree our key maker made of them is
-- accepted, and nothing is accepted that the standard rejects."
use Rattle.std.specs.Prelude.{◌≡◌, ◌↔◌, true, false, not, List, [], ◌∷◌, ℕ, ◌≤◌, eqb}
use Rattle.std.proofs.Math.Path.{refl, sym}
use Rattle.std.proofs.Common.{◌∙◌, arith}
use Rattle.std.proofs.Math.ListN.{length}
use borrow.Author.Tests.{le-ltb, ltb-false, eq-eqb, eqb-true, not-false}
use Rattle.refusal.specs.Refusal.{first_of}
use Rattle.refusal.specs.RefusalLaws.{first_of-zero}
use Rattle.refusal.specs.RefusalLaws.{both_true}
use Rattle.rfc8554.specs.Ots.{known_ots, width}
use Rattle.rfc8554.specs.Tree.{known_lms, height, public_key, tree_filled, lms_signature}
use Rattle.rfc8554.specs.Verify.{leaf_of, valid}
use Rattle.protocol.specs.Layout.{signature_length, message_limit}
use Rattle.protocol.specs.Refusals.{wrong_key, too_long, GARBLED_LONG, SIGNATURE_ALONE, check_conditions}
use Rattle.protocol.specs.Signatures.{check_signature, make_key, sign, signed_bytes, seat_key, checks}
use Rattle.rfc8554.specs.TreeLaws.{length-tree_filled, part-tree_filled}
use Rattle.rfc8554.specs.VerifyLaws.{leaf-lms_signature, key_invalid-public_key, valid-lms_signature}
use Rattle.protocol.specs.SignaturesLaws.{key_invalid-wrong_key, valid_key, length-signed_bytes, make_key-unrefused, sign-unrefused}

-- ---- "nothing is accepted that the standard rejects"

-- the stand-alone check answers 0 exactly where RFC 8554's verification says VALID, of messages that aren't too long
pub accepted_exactly : (key message signature : List ℕ)
    → (check_signature key message signature ≡ 0) ↔ ((valid key message signature ≡ true) × (length message ≤ message_limit))
unfolding check_signature check_conditions first_of
accepted_exactly key message signature = (accepted, λ v. rw (valid_key key message signature v.0, le-ltb message_limit (length message) v.1, v.0))
  where
    accepted : check_signature key message signature ≡ 0 → (valid key message signature ≡ true) × (length message ≤ message_limit)
    accepted e =
        let key_right = first_of-zero 4 (wrong_key key) (GARBLED_LONG message ∷ SIGNATURE_ALONE key message signature ∷ []) e in
        let message-right = first_of-zero 8 (too_long message) (SIGNATURE_ALONE key message signature ∷ []) key_right.1 in
        let signature-right = first_of-zero 13 (not (valid key message signature)) [] message-right.1 in
        (not-false (valid key message signature) signature-right.0, ltb-false message_limit (length message) message-right.0)

-- a seat's signature checks exactly where the verification says VALID under the seat's key for its 36 bytes, and the leaf is the round
pub checks_exactly : (keys : List ℕ) (round seat : ℕ) (value signature : List ℕ)
    → (checks keys round seat value signature ≡ true)
    ↔ ((valid (seat_key keys seat) (signed_bytes round seat value) signature ≡ true) × (leaf_of signature ≡ round))
unfolding checks
checks_exactly keys round seat value signature =
    (λ e. let both = both_true (valid (seat_key keys seat) (signed_bytes round seat value) signature) (eqb (leaf_of signature) round) e in (both.0, eqb-true (leaf_of signature) round both.1), λ v. rw (v.0, eq-eqb (leaf_of signature) round v.1))

-- ---- "what the signer writes .. is accepted": for every seed, identifier, randomizer, leaf and message, and whatever the tree's
-- buffer held before

module _
    (seed I C : List ℕ) (seed-length : length seed ≡ 32) (I-length : length I ≡ 16) (C-length : length C ≡ 32)
    (tree key_out out : List ℕ) (tree-length : length tree ≡ 65536) (key_room_lem : 56 ≤ length key_out) (room : 1452 ≤ length out)
    (leaf : ℕ) (leaf-in : leaf ≤ 1023)
  where
    made_key_lem : make_key seed I tree key_out ≡ record { refusal = 0; written = public_key 6 4 I seed; tree = tree_filled I seed tree }
    made_key_lem = make_key-unrefused seed I tree key_out seed-length I-length tree-length key_room_lem

    made-signature : (message : List ℕ) → length message ≤ 65535
        → sign leaf message seed I C (tree_filled I seed tree) out
        ≡ record { refusal = 0; written = lms_signature 6 4 I leaf seed C message (tree_filled I seed tree) }
    unfolding signature_length
    made-signature message short =
        sign-unrefused seed I (tree_filled I seed tree) out seed-length I-length (length-tree_filled I seed tree tree-length) leaf message C
        leaf-in short C-length room

    made-valid : (message : List ℕ)
        → valid (public_key 6 4 I seed) message (lms_signature 6 4 I leaf seed C message (tree_filled I seed tree)) ≡ true
    unfolding known_lms known_ots height width
    made-valid message =
        valid-lms_signature 6 4 I seed refl refl I-length leaf C message (tree_filled I seed tree) C-length (omega arith)
        (λ r low high. part-tree_filled I seed tree tree-length r (omega arith) high)

    made_key-allowed : wrong_key (public_key 6 4 I seed) ≡ false
    unfolding known_lms known_ots
    made_key-allowed = sym (key_invalid-wrong_key (public_key 6 4 I seed)) ∙ key_invalid-public_key 6 4 I seed refl refl I-length

    pub made-signature-accepted : (message : List ℕ) → length message ≤ 65535
        → check_signature (make_key seed I tree key_out).written message
        (sign leaf message seed I C (make_key seed I tree key_out).tree out).written
        ≡ 0
    unfolding check_signature check_conditions first_of message_limit
    made-signature-accepted message short =
        rw
        (made_key_lem, made-signature message short, made_key-allowed, le-ltb 65535 (length message) short, made-valid message)

    -- the engine's form: a seat's signature of its round, under a table in which the seat has that key
    pub made-signature-checks : (keys : List ℕ) (seat : ℕ) (value : List ℕ) → length value ≡ 32
        → seat_key keys seat ≡ (make_key seed I tree key_out).written
        → checks keys leaf seat value
        (sign leaf (signed_bytes leaf seat value) seed I C (make_key seed I tree key_out).tree out).written
        ≡ true
    unfolding checks
    made-signature-checks keys seat value k e =
        let message = signed_bytes leaf seat value in
        let short : length message ≤ 65535 = rw (length-signed_bytes leaf seat value k) (omega arith) in
        let key : seat_key keys seat ≡ public_key 6 4 I seed = rw made_key_lem at e in
        rw (
          made_key_lem,
          made-signature message short,
          key,
          made-valid message,
          leaf-lms_signature 6 4 I leaf seed C message (tree_filled I seed tree) C-length (omega arith),
        )
        (eq-eqb leaf leaf refl)
