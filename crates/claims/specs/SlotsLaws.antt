-- Slots of the store: one that is filled has its bytes, and every other is as before.
-- Assumes nothing.
use Rattle.std.specs.Prelude.{◌≡◌, ℕ, ◌+◌, ◌≤◌, ◌<◌, length}
use Rattle.std.proofs.Math.Path.{refl, sym}
use Rattle.std.proofs.Common.{◌∙◌, arith}
use mathlib.Core.List.Memᴰ
use mathlib.Core.List.{List, [], ◌∷◌, Memᴰ}
use Rattle.std.proofs.Math.Logic.{⊎_elim}
use Rattle.std.proofs.Math.Decide.{ℕ_discrete}
use Rattle.octets.specs.OctetsLaws.{length-patch}
use Rattle.octets.specs.WriteLaws.{part-own, part_before, part_after}
use Rattle.protocol.specs.Layout.{value_length, signature_length, banks, store_length, slot_length, slot_at, kept_bank, kept_value_bank}
use Rattle.protocol.specs.LayoutLaws.{ForSignatures, kept_bank_lem, kept-value_bank, slot-fits, slots_apart}
use Rattle.protocol.specs.Certificate.{slot, fill, fill_each, kept_value, kept_signature, fill_kept}
use Rattle.round.specs.Round.{Each}

-- ---- one slot

module _ (n bank seat : ℕ) (bytes store : List ℕ) (b : bank < length banks) (s : seat < n) (room : store_length n ≤ length store) (sized : length bytes ≡ slot_length bank) where
  fits : slot_at n bank seat + length bytes ≤ length store
  fits = omega (arith, slot-fits n bank seat b s)

  pub fill-length : length (fill n bank seat bytes store) ≡ length store
  unfolding fill
  fill-length = length-patch (slot_at n bank seat) bytes store fits

  pub slot-fill_same : slot n bank (fill n bank seat bytes store) seat ≡ bytes
  unfolding fill slot
  slot-fill_same = part-own (slot_at n bank seat) (slot_length bank) bytes store (let f = fits in omega arith) (omega arith)

  pub slot-fill-other : (bank' seat' : ℕ) → bank' < length banks → seat' < n → (bank ≡ bank' → seat ≡ seat' → ⊥) → slot n bank' (fill n bank seat bytes store) seat' ≡ slot n bank' store seat'
  unfolding fill slot
  slot-fill-other bank' seat' b' s' d =
      let f = fits in
      let here = slot_at n bank seat in
      let there = slot_at n bank' seat' in
      ⊎_elim
      (λ l. part_after there (slot_length bank') here bytes store (omega arith) (omega arith))
      (λ l. part_before there (slot_length bank') here bytes store l (omega arith))
      (slots_apart n bank seat bank' seat' b b' s s' d)

-- ---- several slots

module _ (n bank : ℕ) (f : ℕ → List ℕ) (b : ForSignatures bank) where
  abbrev Fit : List ℕ → Type 0
  Fit xs = Each (λ s. (s < n) × (length (f s) ≡ signature_length)) xs

  pub fill_each-length : (xs store : List ℕ) → Fit xs → store_length n ≤ length store → length (fill_each n bank f xs store) ≡ length store
  unfolding fill_each
  fill_each-length [] store fit room = refl
  fill_each-length (x ∷ xs) store fit room =
      let h = fit x (Memᴰ.head refl) in
      let l = fill-length n bank x (f x) store b.0 h.0 room (h.1 ∙ sym b.1) in
      fill_each-length xs (fill n bank x (f x) store) (λ s d. fit s (Memᴰ.tail d)) (omega arith) ∙ l

  -- a slot that isn't among those filled
  pub slot-fill_each-other : (xs store : List ℕ) (bank' seat' : ℕ) → Fit xs → store_length n ≤ length store → bank' < length banks → seat' < n → Each (λ s. bank ≡ bank' → s ≡ seat' → ⊥) xs
      → slot n bank' (fill_each n bank f xs store) seat' ≡ slot n bank' store seat'
  unfolding fill_each
  slot-fill_each-other [] store bank' seat' fit room b' s' other = refl
  slot-fill_each-other (x ∷ xs) store bank' seat' fit room b' s' other =
      let h = fit x (Memᴰ.head refl) in
      let l = fill-length n bank x (f x) store b.0 h.0 room (h.1 ∙ sym b.1) in
      slot-fill_each-other xs (fill n bank x (f x) store) bank' seat' (λ s d. fit s (Memᴰ.tail d)) (omega arith) b' s' (λ s d. other s (Memᴰ.tail d))
      ∙ slot-fill-other n bank x (f x) store b.0 h.0 room (h.1 ∙ sym b.1) bank' seat' b' s' (other x (Memᴰ.head refl))

  -- a slot that had its signature before
  slot-fill_each-still : (xs store : List ℕ) (seat : ℕ) → seat < n → Fit xs → store_length n ≤ length store → slot n bank store seat ≡ f seat → slot n bank (fill_each n bank f xs store) seat ≡ f seat
  unfolding fill_each
  slot-fill_each-still [] store seat s fit room e = e
  slot-fill_each-still (x ∷ xs) store seat s fit room e =
      let h = fit x (Memᴰ.head refl) in
      let l = fill-length n bank x (f x) store b.0 h.0 room (h.1 ∙ sym b.1) in
      slot-fill_each-still xs (fill n bank x (f x) store) seat s (λ y d. fit y (Memᴰ.tail d)) (omega arith) (go (ℕ_discrete x seat))
    where
      go : Dec (x ≡ seat) → slot n bank (fill n bank x (f x) store) seat ≡ f seat
      go (yes q) =
          let h = fit x (Memᴰ.head refl) in
          rw (← q) (slot-fill_same n bank x (f x) store b.0 h.0 room (h.1 ∙ sym b.1))
      go (no q) =
          let h = fit x (Memᴰ.head refl) in
          slot-fill-other n bank x (f x) store b.0 h.0 room (h.1 ∙ sym b.1) bank seat b.0 s (λ _ p. q p) ∙ e

  pub slot-fill_each_same : (xs store : List ℕ) (seat : ℕ) → Fit xs → store_length n ≤ length store → Memᴰ seat xs → slot n bank (fill_each n bank f xs store) seat ≡ f seat
  unfolding fill_each
  slot-fill_each_same [] store seat fit room d = absurd (Memᴰ.not-nil d)
  slot-fill_each_same (x ∷ xs) store seat fit room d =
      let h = fit x (Memᴰ.head refl) in
      let l = fill-length n bank x (f x) store b.0 h.0 room (h.1 ∙ sym b.1) in
      let fit' : Fit xs = λ s e. fit s (Memᴰ.tail e) in
      ⊎_elim
      (λ q. slot-fill_each-still xs (fill n bank x (f x) store) seat (fit seat d).0 fit' (omega arith) (rw q (slot-fill_same n bank x (f x) store b.0 h.0 room (h.1 ∙ sym b.1))))
      (λ t. slot-fill_each_same xs (fill n bank x (f x) store) seat fit' (omega arith) t)
      (Memᴰ.cases_cons d)

-- ---- the slots of a SUBMIT kept

module _ (n seat : ℕ) (value signature store : List ℕ) (s : seat < n) (room : store_length n ≤ length store) (v : length value ≡ value_length) (g : length signature ≡ slot_length kept_bank) where
  abbrev half : List ℕ
  half = fill n kept_bank seat signature store

  half-long : length half ≡ length store
  half-long = fill-length n kept_bank seat signature store kept_bank_lem.0 s room g

  half_room : store_length n ≤ length half
  half_room = omega (arith, half-long)

  sized : length value ≡ slot_length kept_value_bank
  sized = v ∙ sym kept-value_bank.1

  pub fill_kept-length : length (fill_kept n seat value signature store) ≡ length store
  unfolding fill_kept
  fill_kept-length = fill-length n kept_value_bank seat value half kept-value_bank.0 s half_room sized ∙ half-long

  pub kept_value-fill_kept : kept_value n (fill_kept n seat value signature store) seat ≡ value
  unfolding fill_kept
  kept_value-fill_kept = slot-fill_same n kept_value_bank seat value half kept-value_bank.0 s half_room sized

  pub kept_signature-fill_kept : kept_signature n (fill_kept n seat value signature store) seat ≡ signature
  unfolding fill_kept
  kept_signature-fill_kept =
      slot-fill-other n kept_value_bank seat value half kept-value_bank.0 s half_room sized kept_bank seat kept_bank_lem.0 s (λ q _. omega arith)
      ∙ slot-fill_same n kept_bank seat signature store kept_bank_lem.0 s room g

  -- every other slot is as it was
  pub slot-fill_kept-other : (bank t : ℕ) → bank < length banks → t < n → (kept_value_bank ≡ bank → seat ≡ t → ⊥) → (kept_bank ≡ bank → seat ≡ t → ⊥) → slot n bank (fill_kept n seat value signature store) t ≡ slot n bank store t
  unfolding fill_kept
  slot-fill_kept-other bank t b l c d =
      slot-fill-other n kept_value_bank seat value half kept-value_bank.0 s half_room sized bank t b l c
      ∙ slot-fill-other n kept_bank seat signature store kept_bank_lem.0 s room g bank t b l d
