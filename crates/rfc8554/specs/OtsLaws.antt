-- Laws of LM-OTS: digits, lengths, and chains that continue others.
use Rattle.std.specs.Prelude.{◌≡◌, ℕ, zero, suc, ◌+◌, ◌-◌, ◌*◌, ◌/◌, ◌%◌, ◌^◌, ◌≤◌, ◌<◌, length, get_or}
use Rattle.std.proofs.Common.{sym, ap, ◌∙◌, add-zero, add-suc, add_assoc, zero-add, add-sub_of_le, arith, length-append}
use mathlib.Core.List.{List, ◌++◌}
use Rattle.std.proofs.lemmas.Nat.{and_comm, and_mask, and_le_l}
use Rattle.octets.specs.Octets.{part}
use Rattle.octets.specs.OctetsLaws.{length-be}
use Rattle.fips180.specs.FipsLaws.{length-sha256}
use Rattle.rfc8554.specs.Ots.{H, u32str, coef, width, chains, ots_length, chain_input, chain, start, key_input, chain_end, ots_key, digested, signed, ots_signature, completed, candidate}
use Rattle.octets.specs.StringsLaws.{part_skip, part_left, part-front, part_between, length-joined, part-joined, joined_same}

-- ---- digits

-- a digit is below 2^w, whatever the string holds
coef_le : (w : ℕ) (S : List ℕ) (i : ℕ) → coef w S i ≤ 2 ^ w - 1
unfolding coef
coef_le w S i = and_le_l (2 ^ w - 1) _

coef_mod : (w : ℕ) (S : List ℕ) (i : ℕ) → coef w S i ≡ get_or S (i * w / 8) 0 / 2 ^ (8 - (w * (i % (8 / w)) + w)) % 2 ^ w
unfolding coef
coef_mod w S i = and_comm (2 ^ w - 1) _ ∙ and_mask _ w

-- width 8: the bytes
pub coef-eight : (S : List ℕ) (i : ℕ) → get_or S i 0 < 256 → coef 8 S i ≡ get_or S i 0
coef-eight S i h =
    let place : i * 8 / 8 ≡ i = omega arith in
    let shift : 8 - (8 * (i % 1) + 8) ≡ 0 = omega arith in
    coef_mod 8 S i ∙ rw (place, shift) (omega arith)

-- width 4: of each byte the high half, then the low half
pub coef-four-high : (S : List ℕ) (i : ℕ) → i % 2 ≡ 0 → get_or S (i / 2) 0 < 256 → coef 4 S i ≡ get_or S (i / 2) 0 / 16
coef-four-high S i e h =
    let place : i * 4 / 8 ≡ i / 2 = omega arith in
    let shift : 8 - (4 * (i % 2) + 4) ≡ 4 = omega arith in
    coef_mod 4 S i ∙ rw (place, shift) (omega arith)

pub coef-four-low : (S : List ℕ) (i : ℕ) → i % 2 ≡ 1 → coef 4 S i ≡ get_or S (i / 2) 0 % 16
coef-four-low S i e =
    let place : i * 4 / 8 ≡ i / 2 = omega arith in
    let shift : 8 - (4 * (i % 2) + 4) ≡ 0 = omega arith in
    coef_mod 4 S i ∙ rw (place, shift) (omega arith)

-- ---- chains

pub chain-add : (I : List ℕ) (q i a c d : ℕ) (tmp : List ℕ)
    → chain I q i a (c + d) tmp ≡ chain I q i (a + c) d (chain I q i a c tmp)
unfolding chain
chain-add I q i a c zero tmp = rw add-zero
chain-add I q i a c (suc d) tmp = rw (add-suc, chain-add I q i a c d tmp, add_assoc)

-- from a chain's first a steps the rest of its n steps lead to its end
chain-rest : (I : List ℕ) (q i a n : ℕ) (tmp : List ℕ) → a ≤ n
    → chain I q i a (n - a) (chain I q i 0 a tmp) ≡ chain I q i 0 n tmp
chain-rest I q i a n tmp h = sym (rw (zero-add, add-sub_of_le h) at (chain-add I q i 0 a (n - a) tmp))

-- ---- lengths

pub length-chain : (I : List ℕ) (q i a c : ℕ) (tmp : List ℕ) → length tmp ≡ 32 → length (chain I q i a c tmp) ≡ 32
unfolding chain
length-chain I q i a zero tmp e = e
length-chain I q i a (suc c) tmp e = length-sha256 _

pub length-start : (I : List ℕ) (q : ℕ) (seed : List ℕ) (i : ℕ) → length (start I q seed i) ≡ 32
unfolding start
length-start I q seed i = length-sha256 _

pub length-signed : (I : List ℕ) (q w : ℕ) (seed S : List ℕ) (i : ℕ) → length (signed I q w seed S i) ≡ 32
unfolding signed
length-signed I q w seed S i = length-chain I q i 0 _ _ (length-start I q seed i)

-- the hash input of a chain step, over an identifier of 16 bytes
module _ (I : List ℕ) (e : length I ≡ 16) (q : ℕ) where
  -- 55 bytes
  pub length-chain_input : (i j : ℕ) (tmp : List ℕ) → length tmp ≡ 32 → length (chain_input I q i j tmp) ≡ 55
  unfolding chain_input
  length-chain_input i j tmp k = simp (length-append, length-be) (omega arith)

pub four_le_ots_length : (w : ℕ) → 4 ≤ ots_length w
unfolding ots_length
four_le_ots_length w = omega arith

-- ---- a signature's fields, and the key that Algorithm 4b finds in it

-- from y[i] of Algorithm 3, z[i] of Algorithm 4b is y[i] of Algorithm 1
completed-signed : (I : List ℕ) (q w : ℕ) (seed S signature : List ℕ) (i : ℕ)
    → part (36 + 32 * i) 32 signature ≡ signed I q w seed S i → completed I q w S signature i ≡ chain_end I q w seed i
unfolding completed signed chain_end
completed-signed I q w seed S signature i e = rw e (chain-rest I q i (coef w S i) (2 ^ w - 1) (start I q seed i) (coef_le w S i))

module _ (type : ℕ) (I : List ℕ) (q : ℕ) (seed C message : List ℕ) (e : length C ≡ 32) where
  length_front : length (u32str type ++ C) ≡ 36
  length_front = simp (length-append, length-be) (omega arith)

  pub length-ots_signature : length (ots_signature type I q seed C message) ≡ ots_length (width type)
  unfolding ots_signature ots_length
  length-ots_signature =
      rw (length-append, length_front, length-joined 32 _ _ (λ i _. length-signed I q (width type) seed _ i)) (omega arith)

  pub type_ots_signature : part 0 4 (ots_signature type I q seed C message) ≡ u32str type
  unfolding ots_signature
  type_ots_signature =
      part_left (u32str type ++ C) _ 0 4 (rw length_front (omega arith))
      ∙ part-front (u32str type) C 4 (length-be 4 type)

  randomizer-ots_signature : part 4 32 (ots_signature type I q seed C message) ≡ C
  unfolding ots_signature
  randomizer-ots_signature = part_between (u32str type) C _ 4 32 (length-be 4 type) e

  value-ots_signature : (i : ℕ) → i < chains (width type)
      → part (36 + 32 * i) 32 (ots_signature type I q seed C message)
      ≡ signed I q (width type) seed (digested I q (width type) C message) i
  unfolding ots_signature
  value-ots_signature i h =
      part_skip (u32str type ++ C) _ 36 (32 * i) 32 length_front
      ∙ part-joined 32 _ _ (λ j _. length-signed I q (width type) seed _ j) i h

  pub candidate-ots_signature : candidate I q (width type) message (ots_signature type I q seed C message) ≡ ots_key I q (width type) seed
  unfolding candidate ots_key
  candidate-ots_signature =
      rw randomizer-ots_signature
      (ap (λ (ends : List ℕ). H (key_input I q ends))
      (joined_same _ _ _
      (λ i h. completed-signed I q (width type) seed _ _ i (value-ots_signature i h))))
