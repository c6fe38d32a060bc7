-- A seat's signature: the 36 bytes that it signs, and its check.
-- Assumes nothing.
use Rattle.std.specs.Prelude.{◌≡◌, List, ◌∷◌, ◌++◌, ℕ, ◌+◌, ◌*◌, ◌/◌, ◌%◌, ◌≤◌, ◌<◌, length}
use Rattle.std.proofs.Math.Path.{sym}
use Rattle.std.proofs.Common.{ap, ◌∙◌, arith, eq-eqb, ne_eqb}
use Rattle.std.proofs.Math.Bool.{and-true, and-false}
use Rattle.octets.specs.Octets.{patch, be, word_at}
use Rattle.octets.specs.OctetsLaws.{length-be, be-four}
use Rattle.octets.specs.StringsLaws.{be-one, be-two, number-part-four}
use Rattle.octets.specs.WriteLaws.{pieces}
use Rattle.rfc8554.specs.Verify.{leaf_of, valid}
use Rattle.protocol.specs.Layout.{signature_length}
use Rattle.protocol.specs.Signatures.{signed_bytes, seat_key, checks, signature_number}

-- ---- the bytes that a seat signs

-- the command, the round and the seat, as one word
head-word : (round seat : ℕ) → round ≤ 65535 → seat < 256 → be 4 (16777216 + round * 256 + seat) ≡ 1 ∷ be 2 round ++ be 1 seat
head-word round seat h k =
    let x = 16777216 + round * 256 + seat in
    let b0 : x / 16777216 % 256 ≡ 1 = omega arith in
    let b1 : x / 65536 % 256 ≡ round / 256 % 256 = omega arith in
    let b2 : x / 256 % 256 ≡ round % 256 = omega arith in
    let b3 : x % 256 ≡ seat % 256 = omega arith in
    rw (be-four, be-two, be-one, b0, b1, b2, b3)

pub seat-signed : (value zs p q : List ℕ) (round seat : ℕ) → round ≤ 65535 → seat < 256
    → p ≡ patch 0 (be 4 (16777216 + round * 256 + seat)) zs → q ≡ patch 4 value p → length zs ≡ 4 + length value
    → q ≡ signed_bytes round seat value
unfolding signed_bytes
seat-signed value zs p q round seat h k u v l =
    let x = 16777216 + round * 256 + seat in
    pieces 4 (be 4 x) value zs p q u (sym (length-be 4 x)) (rw length-be (sym l)) v ∙ ap (λ (b : List ℕ). b ++ value) (head-word round seat h k)

-- ---- the check

module _ (keys : List ℕ) (round seat : ℕ) (value s : List ℕ) (h : length s ≡ signature_length) (q : ℕ) (e : q ≡ word_at s 0) where
  leaf_field : leaf_of s ≡ q
  unfolding signature_length
  leaf_field = number-part-four 0 s (omega (arith, h)) ∙ sym e

  pub leaf_differs : (q ≡ round → ⊥) → 14 ≡ signature_number (checks keys round seat value s)
  unfolding checks signature_number
  leaf_differs d = rw (ne_eqb (leaf_of s) round (λ i. d (sym leaf_field ∙ i)), and-false)

  pub leaf_agrees : q ≡ round → (key message : List ℕ) (number : ℕ) → key ≡ seat_key keys seat → message ≡ signed_bytes round seat value
      → number ≡ signature_number (valid key message s) → number ≡ signature_number (checks keys round seat value s)
  unfolding checks
  leaf_agrees d key message number f g v = v ∙ rw (eq-eqb (leaf_of s) round (leaf_field ∙ d), and-true, ← f, ← g)
