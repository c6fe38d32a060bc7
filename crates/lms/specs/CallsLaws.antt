-- The calls: one law for each return of the code.
use Rattle.std.specs.Prelude.{◌≡◌, refl, ℕ, zero, suc, ◌≤◌, length}
use Rattle.std.proofs.Common.{sym, ◌∙◌}
use mathlib.Core.List.{List, [], ◌∷◌}
use borrow.Author.Tests.{ltb-false, eqb-true, not-false}
use Rattle.refusal.specs.Refusal.{first_of}
use Rattle.refusal.specs.RefusalLaws.{both_false, first_of-zero}
use Rattle.rfc8554.specs.Verify.{valid}
use Rattle.protocol.specs.Layout.{key_length, signature_length, tree_length, message_limit}
use Rattle.protocol.specs.Record.{last_round, wrong_round}
use Rattle.protocol.specs.Refusals.{short_out, SIGNATURE_ALONE, make_key_conditions, sign_conditions}
use Rattle.protocol.specs.Signatures.{signature_number, make_key_refusal, make_key, sign_refusal, sign}
use Rattle.protocol.specs.SignaturesLaws.{signature-row, make_key-refused, sign-refused}

-- ---- the key maker

module _ (seed I tree out : List ℕ) (n : ℕ) (e : n ≡ make_key_refusal seed I tree out) where
  pub key_refused : (n ≡ 0 → ⊥) → make_key seed I tree out ≡ record { refusal = n; written = []; tree = tree }
  key_refused d = go n e d
    where
      go : (m : ℕ) → m ≡ make_key_refusal seed I tree out → (m ≡ 0 → ⊥) → make_key seed I tree out ≡ record { refusal = m; written = []; tree = tree }
      go zero f d = absurd (d refl)
      go (suc m) f d = make_key-refused seed I tree out m (sym f)

  -- the lengths where nothing is refused
  pub key_room_lem : n ≡ 0 → (length seed ≡ 32) × (length I ≡ 16) × (length tree ≡ tree_length) × (key_length ≤ length out)
  unfolding make_key_refusal make_key_conditions short_out
  key_room_lem z =
      let first = first_of-zero 6 _ _ (sym e ∙ z) in
      let parts = both_false _ _ (first_of-zero 15 _ [] first.1).0 in
      let two = both_false _ _ parts.0 in
      (eqb-true _ _ (not-false _ two.0), eqb-true _ _ (not-false _ two.1), eqb-true _ _ (not-false _ parts.1), ltb-false _ _ first.0)

-- ---- the signer

module _ (leaf : ℕ) (message seed I C tree out : List ℕ) (n : ℕ) (e : n ≡ sign_refusal leaf message seed I C tree out) where
  pub signer-refused : (n ≡ 0 → ⊥) → sign leaf message seed I C tree out ≡ record { refusal = n; written = [] }
  signer-refused d = go n e d
    where
      go : (m : ℕ) → m ≡ sign_refusal leaf message seed I C tree out → (m ≡ 0 → ⊥)
          → sign leaf message seed I C tree out ≡ record { refusal = m; written = [] }
      go zero f d = absurd (d refl)
      go (suc m) f d = sign-refused leaf message seed I C tree out m (sym f)

  pub signer-room : n ≡ 0
      → (leaf ≤ last_round) × (signature_length ≤ length out) × (length message ≤ message_limit) × (length seed ≡ 32) × (length I ≡ 16)
      × (length C ≡ 32) × (length tree ≡ tree_length)
  unfolding sign_refusal sign_conditions short_out wrong_round
  signer-room z =
      let first = first_of-zero 2 _ _ (sym e ∙ z) in
      let second = first_of-zero 6 _ _ first.1 in
      let third = first_of-zero 8 _ _ second.1 in
      let four = both_false _ _ (first_of-zero 15 _ [] third.1).0 in
      let three = both_false _ _ four.0 in
      let two = both_false _ _ three.0 in (
        ltb-false _ _ first.0,
        ltb-false _ _ second.0,
        ltb-false _ _ third.0,
        eqb-true _ _ (not-false _ two.0),
        eqb-true _ _ (not-false _ two.1),
        eqb-true _ _ (not-false _ three.1),
        eqb-true _ _ (not-false _ four.1),
      )

-- ---- the check

-- its last row, by the verdict
pub check_verdict : (key message s : List ℕ) (number : ℕ) → number ≡ signature_number (valid key message s) → number ≡ first_of (SIGNATURE_ALONE key message s ∷ [])
check_verdict key message s number f = f ∙ signature-row (valid key message s)
