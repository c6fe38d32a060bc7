-- Sets and lists of seats, what is looked up for a seat among entries, and slots filled one after another.
-- Assumes nothing.
use Rattle.std.specs.Prelude.{◌≡◌, refl, cond, ◌⊎◌, ◌↔◌, ℕ, suc, ◌^◌, ◌<◌, eqb, length, get_or}
use Rattle.std.proofs.Common.{ap, ◌∙◌, inl, inr, ⊎_elim, arith, eq-eqb, ne_eqb}
use mathlib.Core.List.Memᴰ
use mathlib.Core.List.{List, [], ◌∷◌, ◌++◌, map, Memᴰ}
use Rattle.std.proofs.Math.Decide.{dec_lt, ℕ_discrete}
use Rattle.quorum.specs.Quorum.{In, bit, with, union, one, seats}
use Rattle.quorum.specs.QuorumLaws.{bit_cases, bit-empty, bit-one_same, bit-one-other, bit-outside, bit-union, in_union, same_seats, mem-seats}
use Rattle.protocol.specs.Certificate.{fill, fill_each, set_of}

with_with : (s t m : ℕ) → with s (with t m) ≡ with t (with s m)
unfolding with
with_with s t m =
    same_seats (union (union m (one t)) (one s)) (union (union m (one s)) (one t))
    (λ x. omega (arith, bit-union x (union m (one t)) (one s), bit-union x m (one t), bit-union x (union m (one s)) (one t), bit-union x m (one s)))

pub set_snoc : (xs : List ℕ) (s : ℕ) → set_of (xs ++ s ∷ []) ≡ with s (set_of xs)
unfolding set_of
set_snoc [] s = refl
set_snoc (x ∷ xs) s = rw (set_snoc xs s) (with_with x s (set_of xs))

-- the set of a list has the seats of the list, and a set is the set of the list of its seats
in_one : (s t : ℕ) → In s (one t) → s ≡ t
in_one s t h = go (ℕ_discrete s t)
  where
    go : Dec (s ≡ t) → s ≡ t
    go (yes e) = e
    go (no d) = absurd (omega (arith, bit-one-other s t d))

pub in_set : (s : ℕ) (xs : List ℕ) → In s (set_of xs) ↔ Memᴰ s xs
unfolding set_of with
in_set s [] = (λ h. absurd (omega (arith, bit-empty s)), λ d. absurd (Memᴰ.not-nil d))
in_set s (x ∷ xs) =
    let rest = in_set s xs in
    let both = in_union s (set_of xs) (one x) in (
      λ h. ⊎_elim (λ i. Memᴰ.tail (rest.0 i)) (λ i. Memᴰ.head (in_one s x i)) (both.0 h),
      λ d. both.1 (⊎_elim (λ e. inr (rw e (bit-one_same x))) (λ t. inl (rest.1 t)) (Memᴰ.cases_cons d)),
    )

pub set-seats : (n m : ℕ) → m < 2 ^ n → set_of (seats n m) ≡ m
set-seats n m l = same_seats (set_of (seats n m)) m (λ s. go s (bit_cases s m) (bit_cases s (set_of (seats n m))))
  where
    below : (s : ℕ) → In s m → Dec (s < n) → s < n
    below s i (yes h) = h
    below s i (no h) = absurd (omega (arith, bit-outside s n m l (omega arith)))

    go : (s : ℕ) → (bit s m ≡ 0) ⊎ In s m → (bit s (set_of (seats n m)) ≡ 0) ⊎ In s (set_of (seats n m)) → bit s (set_of (seats n m)) ≡ bit s m
    go s (inl z) (inl y) = omega arith
    go s (inl z) (inr i) = absurd (omega (arith, ((mem-seats n s m).0 ((in_set s (seats n m)).0 i)).1))
    go s (inr i) (inl y) = absurd (omega (arith, (in_set s (seats n m)).1 ((mem-seats n s m).1 (below s i (dec_lt s n), i))))
    go s (inr i) (inr j) = omega arith

-- What is looked up for a seat is that of the entry which has the seat. `look` goes from entry to entry until it finds the seat.
module _ {A B : Type 0} (seat : A → ℕ) (content : A → B) (look : List A → ℕ → B) (next : (x : A) (xs : List A) (s : ℕ) → look (x ∷ xs) s ≡ cond (eqb (seat x) s) (content x) (look xs s)) where
  pub found_after : (xs : List A) (before : List ℕ) (s : ℕ) (rest : List ℕ) (d : A) → map seat xs ≡ before ++ s ∷ rest
      → ((i : ℕ) → i < length before → get_or before i 0 < s) → look xs s ≡ content (get_or xs (length before) d)
  found_after [] [] s rest d e h = absurd (omega (arith, ap length e))
  found_after [] (b ∷ before) s rest d e h = absurd (omega (arith, ap length e))
  found_after (x ∷ xs) [] s rest d e h =
      let here : seat x ≡ s = cc in
      next x xs s ∙ rw (eq-eqb (seat x) s here)
  found_after (x ∷ xs) (b ∷ before) s rest d e h =
      let here : seat x ≡ b = cc in
      let after : map seat xs ≡ before ++ s ∷ rest = cc in
      next x xs s
      ∙ rw (ne_eqb (seat x) s (λ q. omega (arith, h 0 (omega arith))))
      (found_after xs before s rest d after (λ i l. h (suc i) (omega arith)))

pub fill_snoc : (n bank : ℕ) (f : ℕ → List ℕ) (xs : List ℕ) (s : ℕ) (store : List ℕ) → fill_each n bank f (xs ++ s ∷ []) store ≡ fill n bank s (f s) (fill_each n bank f xs store)
unfolding fill_each
fill_snoc n bank f [] s store = refl
fill_snoc n bank f (x ∷ xs) s store = fill_snoc n bank f xs s (fill n bank x (f x) store)
