-- The store's slots: each lies in the store, and no two overlap.
-- Assumes nothing.
use Rattle.std.specs.Prelude.{◌≡◌, ◌⊎◌, length}
use Rattle.std.proofs.Math.Path.{refl}
use mathlib.Core.List.{List, [], ◌∷◌}
use Rattle.std.proofs.Common.{inl, inr}
use Prim.Native.Nat.{ℕ, zero, suc, ◌+◌, ◌*◌, ◌≤◌, ◌<◌}
use Rattle.std.proofs.Math.Nat.{mul-le-mul_left}
use native.Mathlib.Omega.{arith}
use Rattle.std.proofs.Math.Decide.{dec_lt, ℕ_discrete}
use Rattle.protocol.specs.Layout.{value_length, signature_length, banks, collected_bank, first_bank, kept_bank, kept_value_bank, length_of_banks, banks_before, slot_length_in, slot_length, store_length, slot_at}

-- start and end of a seat's slot, in a bank of a list of banks
module _ (n : ℕ) where
  abbrev start_in : List ℕ → ℕ → ℕ → ℕ
  start_in list bank seat = length_of_banks (banks_before bank list) * n + slot_length_in bank list * seat

  abbrev end_in : List ℕ → ℕ → ℕ → ℕ
  end_in list bank seat = start_in list bank seat + slot_length_in bank list

  slots-fit : (bank seat : ℕ) (list : List ℕ) → bank < length list → seat < n → end_in list bank seat ≤ length_of_banks list * n
  unfolding length_of_banks banks_before slot_length_in
  slots-fit bank seat [] b h = absurd (omega arith)
  slots-fit zero seat (slot ∷ rest) b h =
      let room : slot * suc seat ≤ slot * n = mul-le-mul_left slot (omega arith) in
      omega arith
  slots-fit (suc bank) seat (slot ∷ rest) b h =
      let later = slots-fit bank seat rest (omega arith) h in
      omega arith

  abbrev Apart : List ℕ → ℕ → ℕ → ℕ → ℕ → Type 0
  Apart list bank seat bank' seat' = (end_in list bank seat ≤ start_in list bank' seat') ⊎ (end_in list bank' seat' ≤ start_in list bank seat)

  slots-part : (bank seat bank' seat' : ℕ) (list : List ℕ) → bank < length list → bank' < length list → seat < n → seat' < n → (bank ≡ bank' → seat ≡ seat' → ⊥)
      → Apart list bank seat bank' seat'
  unfolding length_of_banks banks_before slot_length_in
  slots-part bank seat bank' seat' [] b b' s s' d = absurd (omega arith)
  slots-part zero seat zero seat' (slot ∷ rest) b b' s s' d = by (dec_lt seat seat')
    where
      under : Dec (seat ≡ seat') → (seat < seat' → ⊥) → seat' < seat
      under (yes e) l = absurd (d refl e)
      under (no e) l = omega arith

      by : Dec (seat < seat') → Apart (slot ∷ rest) 0 seat 0 seat'
      by (yes l) =
          let room : slot * suc seat ≤ slot * seat' = mul-le-mul_left slot (omega arith) in
          inl (omega arith)
      by (no l) =
          let below : seat' < seat = under (ℕ_discrete seat seat') l in
          let room : slot * suc seat' ≤ slot * seat = mul-le-mul_left slot (omega arith) in
          inr (omega arith)
  slots-part zero seat (suc bank') seat' (slot ∷ rest) b b' s s' d =
      let room : slot * suc seat ≤ slot * n = mul-le-mul_left slot (omega arith) in
      inl (omega arith)
  slots-part (suc bank) seat zero seat' (slot ∷ rest) b b' s s' d =
      let room : slot * suc seat' ≤ slot * n = mul-le-mul_left slot (omega arith) in
      inr (omega arith)
  slots-part (suc bank) seat (suc bank') seat' (slot ∷ rest) b b' s s' d = later (slots-part bank seat bank' seat' rest (omega arith) (omega arith) s s' (λ e. d (omega arith)))
    where
      later : Apart rest bank seat bank' seat' → Apart (slot ∷ rest) (suc bank) seat (suc bank') seat'
      later (inl l) = inl (omega arith)
      later (inr l) = inr (omega arith)

-- the slot of a seat lies in a store of the stated length
pub slot-fits : (n bank seat : ℕ) → bank < length banks → seat < n → slot_at n bank seat + slot_length bank ≤ store_length n
unfolding slot_at slot_length store_length
slot-fits n bank seat b h = slots-fit n bank seat banks b h

-- the slots of two seats, or of two banks, don't overlap
pub slots_apart : (n bank seat bank' seat' : ℕ) → bank < length banks → bank' < length banks → seat < n → seat' < n → (bank ≡ bank' → seat ≡ seat' → ⊥)
    → (slot_at n bank seat + slot_length bank ≤ slot_at n bank' seat') ⊎ (slot_at n bank' seat' + slot_length bank' ≤ slot_at n bank seat)
unfolding slot_at slot_length
slots_apart n bank seat bank' seat' b b' s s' d = slots-part n bank seat bank' seat' banks b b' s s' d

-- three banks have slots for signatures
abbrev pub ForSignatures : ℕ → Type 0
ForSignatures bank = (bank < length banks) × (slot_length bank ≡ signature_length)

pub collected_bank_lem : ForSignatures collected_bank
unfolding slot_length slot_length_in banks
collected_bank_lem = (omega arith, refl)

pub first_bank_lem : ForSignatures first_bank
unfolding slot_length slot_length_in banks
first_bank_lem = (omega arith, refl)

pub kept_bank_lem : ForSignatures kept_bank
unfolding slot_length slot_length_in banks
kept_bank_lem = (omega arith, refl)

-- and the last has slots for values
pub kept-value_bank : (kept_value_bank < length banks) × (slot_length kept_value_bank ≡ value_length)
unfolding slot_length slot_length_in banks
kept-value_bank = (omega arith, refl)
