-- Laws of the primes, and of the list of constants as a loop fills it.
use Rattle.std.specs.Prelude.{◌≡◌, refl, Bool, true, false, cond, ◌&&◌, List, [], ◌∷◌, ◌++◌, map, ℕ, zero, suc, ◌+◌, ◌-◌, ◌%◌, ◌≤◌, ◌<◌, T, eqb, length, take, set}
use Rattle.std.proofs.Common.{sym, subst, ◌∙◌, ap, ⊎_elim, le_refl, le_trans, le_of_suc-le-suc, not-suc-le-zero, eq-or-lt_of_le, add-zero, add-suc, add-one, arith, ne_eqb, length-append, take-suc-set}
use Rattle.std.specs.Bool.{beq}
use Rattle.std.proofs.lemmas.List.{map-append}
use Rattle.std.proofs.Math.Seq.{take-length}
use Rattle.fips180.specs.Constants.{constants}
use Rattle.fips180.specs.Rule.{divided, prime, primes_below, primes, fraction}
use Rattle.fips180.specs.RuleLaws.{sixty_four}

-- ---- trial division

-- the first of the k numbers from d on that divides n is n itself, or none does
unfoldable pub tried : ℕ → ℕ → ℕ → Bool
tried n zero d = true
tried n (suc k) d = cond (eqb (n % d) 0) (eqb n d) (tried n k (d + 1))

-- whether this tells the primes of the numbers from 2 to n + 1
tells : ℕ → Bool
tells zero = true
tells (suc n) = beq (tried (n + 2) 16 2) (prime (n + 2)) && tells n

beq_and : (a b c : Bool) → T (beq a b && c) → (a ≡ b) × T c
beq_and true true c t = (refl, t)
beq_and true false c t = absurd t
beq_and false true c t = absurd t
beq_and false false c t = (refl, t)

tells_at : (n : ℕ) → T (tells n) → (i : ℕ) → i < n → tried (i + 2) 16 2 ≡ prime (i + 2)
unfolding tells
tells_at zero t i h = absurd (not-suc-le-zero h)
tells_at (suc n) t i h =
    let here = beq_and (tried (n + 2) 16 2) (prime (n + 2)) (tells n) t in
    ⊎_elim (λ (q : i ≡ n). rw q here.0) (λ (l : i < n). tells_at n here.1 i l) (eq-or-lt_of_le (le_of_suc-le-suc h))

-- below 312 it is enough to try the numbers from 2 to 17, by computation
pub tried_is_prime : (n : ℕ) → 2 ≤ n → n < 312 → tried n 16 2 ≡ prime n
unfolding tells tried prime divided
tried_is_prime n h k =
    let back : n - 2 + 2 ≡ n = omega arith in
    subst (λ (m : ℕ). tried m 16 2 ≡ prime m) back (tells_at 310 tt (n - 2) (omega arith))

-- a pass of the loop: d divides n
pub trial_ends : (n d : ℕ) {b : Bool} → d < 18 → tried n (18 - d) d ≡ b → n % d ≡ 0 → eqb n d ≡ b
unfolding tried
trial_ends n d l e q =
    let left : 18 - d ≡ suc (17 - d) = omega arith in
    sym (subst (λ (c : ℕ). tried n c d ≡ eqb n d) (sym left) (rw q refl)) ∙ e

-- d doesn't
pub trial_goes-on : (n d : ℕ) {b : Bool} → d < 18 → tried n (18 - d) d ≡ b → (n % d ≡ 0 → ⊥) → tried n (18 - (d + 1)) (d + 1) ≡ b
unfolding tried
trial_goes-on n d l e q =
    let left : 18 - d ≡ suc (18 - (d + 1)) = omega arith in
    sym (subst (λ (c : ℕ). tried n c d ≡ tried n (18 - (d + 1)) (d + 1)) (sym left) (rw (ne_eqb (n % d) 0 q) refl)) ∙ e

-- none does
pub trial_done : (n d : ℕ) {b : Bool} → d ≡ 18 → tried n (18 - d) d ≡ b → true ≡ b
unfolding tried
trial_done n d {b} l e = subst (λ (c : ℕ). tried n (18 - c) c ≡ b) l e

-- ---- the constants, as a loop fills them

-- of the numbers below n, the primes are counted and their constants stand in k
pub record Filled (n count : ℕ) (k : List ℕ) : Type 0 where
  pub counted : count ≡ length (primes_below n)
  pub constants_of : take count k ≡ map (fraction 3) (primes_below n)

pub filled_none : (k : List ℕ) → Filled 2 0 k
unfolding primes_below prime divided
filled_none k = record { counted = refl; constants_of = refl }

count-rises : (n : ℕ) → length (primes_below n) ≤ length (primes_below (suc n))
unfolding primes_below
count-rises n = decided (prime n)
  where
    decided : (b : Bool) → length (primes_below n) ≤ length (cond b (primes_below n ++ (n ∷ [])) (primes_below n))
    decided true = rw (length-append (primes_below n) (n ∷ [])) (omega arith)
    decided false = le_refl _

count-rises_by : (n d : ℕ) → length (primes_below n) ≤ length (primes_below (n + d))
count-rises_by n zero = rw (add-zero n) (le_refl _)
count-rises_by n (suc d) = rw (add-suc n d) (le_trans (count-rises_by n d) (count-rises (n + d)))

next_prime : (n : ℕ) → prime n ≡ true → primes_below (n + 1) ≡ primes_below n ++ (n ∷ [])
unfolding primes_below
next_prime n p = rw (add-one n, p) refl

-- there are no more than 64
pub filled-room : (n count : ℕ) (k : List ℕ) → Filled n count k → n < 312 → prime n ≡ true → count < 64
unfolding primes
filled-room n count k f h p =
    let last : n + 1 + (311 - n) ≡ 312 = omega arith in
    let most : length (primes_below (n + 1)) ≤ 64 = subst (λ (m : ℕ). length (primes_below (n + 1)) ≤ m) (ap (λ (m : ℕ). length (primes_below m)) last ∙ sixty_four.0) (count-rises_by (n + 1) (311 - n)) in
    let one : length (primes_below (n + 1)) ≡ length (primes_below n) + 1 = ap length (next_prime n p) ∙ length-append (primes_below n) (n ∷ []) in
    let counted : count ≡ length (primes_below n) = f.counted in
    omega arith

pub filled_more : (n count x : ℕ) (k : List ℕ) → Filled n count k → count < length k → prime n ≡ true → x ≡ fraction 3 n
    → Filled (n + 1) (count + 1) (set k count x)
filled_more n count x k f h p e = record {
  counted = ap (λ (c : ℕ). c + 1) f.counted ∙ sym (ap length (next_prime n p) ∙ length-append (primes_below n) (n ∷ []));
  constants_of =
      rw (next_prime n p, map-append (fraction 3) (primes_below n) (n ∷ []), add-one count, take-suc-set k count x h, f.constants_of, e) refl;
}

pub filled_same : (n count : ℕ) (k : List ℕ) → Filled n count k → prime n ≡ false → Filled (n + 1) count k
unfolding primes_below
filled_same n count k f p = record {
  counted = rw (add-one n, p) f.counted;
  constants_of = rw (add-one n, p) f.constants_of;
}

pub filled-done : (n count : ℕ) (k : List ℕ) → Filled n count k → n ≡ 312 → length k ≡ 64 → k ≡ constants
unfolding constants primes
filled-done n count k f e l =
    let full : count ≡ length k = f.counted ∙ ap (λ (m : ℕ). length (primes_below m)) e ∙ sixty_four.0 ∙ sym l in
    sym (take-length k) ∙ subst (λ (c : ℕ). take c k ≡ map (fraction 3) (primes_below n)) full f.constants_of
    ∙ ap (λ (m : ℕ). map (fraction 3) (primes_below m)) e
