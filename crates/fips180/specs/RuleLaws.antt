-- Laws of FIPS 180-4's rule: the roots of `Rule` are roots, and the initial hash value meets the rule. `proofs/ConstantsLaws` has the
-- laws of the round constants.
use Rattle.std.specs.Prelude.{◌≡◌, refl, Bool, true, false, cond, List, map, ℕ, zero, suc, ◌+◌, ◌*◌, ◌/◌, ◌^◌, ◌≤◌, ◌<◌, leb, length, get_or, take}
use Rattle.std.proofs.Common.{sym, subst, ◌∙◌, ap, ap₂, zero-le, pow-suc, le_antisymm, lt_of_le_of_lt, lt_of_not-le, not-le_of_lt, zero-lt-suc, mul-zero, mul-one, one-mul, mul_left_comm, mul-le-mul_left, mod-lt, div-add-mod', add-one, arith, get_or-take, leb-true, leb-false}
use Rattle.std.proofs.Math.Nat.{pow-zero, pow-succ', pow-le-pow_left, pow-le-pow_right, one-le-pow, mul-mul-mul_comm, mul-lt-mul_of_pos_left}
use Rattle.std.proofs.Math.ListN.{get_or-map}
use Rattle.fips180.specs.Constants.{constants, initial}
use Rattle.fips180.specs.Rule.{divided, prime, primes_below, primes, IsIntegerRoot, largest_up_to, or_next, root, fraction, FirstBits}

-- ---- powers

one_pow : (e : ℕ) → 1 ^ e ≡ 1
one_pow zero = pow-zero 1
one_pow (suc e) = pow-suc 1 e ∙ mul-one (1 ^ e) ∙ one_pow e

pub mul_pow : (x y e : ℕ) → (x * y) ^ e ≡ x ^ e * y ^ e
mul_pow x y zero = pow-zero (x * y) ∙ sym (ap₂ (λ (a b : ℕ). a * b) (pow-zero x) (pow-zero y))
mul_pow x y (suc e) =
    pow-suc (x * y) e ∙ ap (λ (z : ℕ). z * (x * y)) (mul_pow x y e) ∙ mul-mul-mul_comm (x ^ e) (y ^ e) x y
    ∙ sym (ap₂ (λ (a b : ℕ). a * b) (pow-suc x e) (pow-suc y e))

-- the number with the smaller power is the smaller one
pub base_lt : (e : ℕ) {x y : ℕ} → x ^ e < y ^ e → x < y
base_lt e h = lt_of_not-le (λ p. not-le_of_lt h (pow-le-pow_left p e))

-- ---- roots

-- what isn't above the one root isn't above the other
root_le : (e m x y : ℕ) → x ^ e ≤ m → m < (y + 1) ^ e → x ≤ y
root_le e m x y h k = omega (arith, base_lt e {x = x} {y = y + 1} (lt_of_le_of_lt h k))

-- a number has one root
pub root_unique : (e m x y : ℕ) → IsIntegerRoot e m x → IsIntegerRoot e m y → x ≡ y
root_unique e m x y p q = le_antisymm (root_le e m x y p.below q.above) (root_le e m y x q.below p.above)

whole_is : (e p n : ℕ) → 1 ≤ e → p < (n + 1) ^ e → IsIntegerRoot e p (largest_up_to e p n)
unfolding largest_up_to
whole_is (suc e) p zero h k = record { below = subst (λ (x : ℕ). x ≤ p) (sym (pow-suc 0 e ∙ mul-zero (0 ^ e))) zero-le; above = k }
whole_is e p (suc n) h k = decided (leb (suc n ^ e) p) refl (whole_is e p n h)
  where
    decided : (b : Bool) → leb (suc n ^ e) p ≡ b → (p < (n + 1) ^ e → IsIntegerRoot e p (largest_up_to e p n)) → IsIntegerRoot e p (cond b (suc n) (largest_up_to e p n))
    decided true q below = record { below = leb-true (suc n ^ e) p q; above = k }
    decided false q below = below (subst (λ (x : ℕ). p < x ^ e) (sym (add-one n)) (leb-false (suc n ^ e) p q))
whole_is zero p zero h k = elim h [ ]

-- one bit more
next_is : (e m n x : ℕ) → n ≡ 2 ^ e * m → IsIntegerRoot e m x → IsIntegerRoot e n (or_next e n (2 * x))
unfolding or_next
next_is e m n x q r = decided (leb ((2 * x + 1) ^ e) n) refl
  where
    least : (2 * x) ^ e ≤ n
    least = rw (q, mul_pow 2 x e) (mul-le-mul_left (2 ^ e) r.below)

    most : n < (2 * x + 1 + 1) ^ e
    most =
        let double : 2 * x + 1 + 1 ≡ 2 * (x + 1) = omega arith in
        rw (q, double, mul_pow 2 (x + 1) e) (mul-lt-mul_of_pos_left r.above (one-le-pow e 2 (zero-lt-suc 1)))

    decided : (b : Bool) → leb ((2 * x + 1) ^ e) n ≡ b → IsIntegerRoot e n (cond b (2 * x + 1) (2 * x))
    decided true p = record { below = leb-true ((2 * x + 1) ^ e) n p; above = most }
    decided false p = record { below = least; above = leb-false ((2 * x + 1) ^ e) n p }

power_above : (e p : ℕ) → 1 ≤ e → p < (p + 1) ^ e
power_above e p h =
    let first : (p + 1) ^ 1 ≡ p + 1 = pow-suc (p + 1) 0 ∙ ap (λ (x : ℕ). x * (p + 1)) (pow-zero (p + 1)) ∙ one-mul (p + 1) in
    let rising : (p + 1) ^ 1 ≤ (p + 1) ^ e = pow-le-pow_right (omega arith) h in
    omega arith

-- `root` is the root, for any exponent and any count of bits
pub root_is : (e p b : ℕ) → 1 ≤ e → IsIntegerRoot e (p * (2 ^ b) ^ e) (root e p b)
unfolding root
root_is e p zero h =
    subst (λ (m : ℕ). IsIntegerRoot e m (largest_up_to e p p)) (sym (ap (λ (x : ℕ). p * x) (one_pow e) ∙ mul-one p))
    (whole_is e p p h (power_above e p h))
root_is e p (suc b) h =
    next_is e (p * (2 ^ b) ^ e) (p * (2 ^ suc b) ^ e) (root e p b)
    (ap (λ (x : ℕ). p * x) (ap (λ (x : ℕ). x ^ e) (pow-succ' 2 b) ∙ mul_pow 2 (2 ^ b) e) ∙ mul_left_comm p (2 ^ e) ((2 ^ b) ^ e))
    (root_is e p b h)

-- ---- the rule

-- `fraction` is what the standard says
pub fraction_is : (e p : ℕ) → 1 ≤ e → FirstBits e p (fraction e p)
unfolding fraction
fraction_is e p h = record {
  whole = root e p 32 / 2 ^ 32;
  rounded = subst (IsIntegerRoot e (p * (2 ^ 32) ^ e)) (sym (div-add-mod' (root e p 32) (2 ^ 32))) (root_is e p 32 h);
  bits = mod-lt (root e p 32) (omega arith);
}

-- and nothing else is
pub first_bits_unique : (e p x y : ℕ) → FirstBits e p x → FirstBits e p y → x ≡ y
first_bits_unique e p x y f g =
    let same : f.whole * 2 ^ 32 + x ≡ g.whole * 2 ^ 32 + y = root_unique e (p * (2 ^ 32) ^ e) _ _ f.rounded g.rounded in
    omega (arith, same, f.bits, g.bits)

-- "the first sixty-four prime numbers", by computation, a constant for each, and eight words of the initial hash value
pub sixty_four : (length primes ≡ 64) × (length constants ≡ 64) × (length initial ≡ 8)
unfolding primes primes_below prime divided constants initial
sixty_four = (refl, refl, refl)

-- the initial hash value by the rule, by computation
initial_fractions : initial ≡ map (fraction 2) (take 8 primes)
unfolding divided prime primes_below primes largest_up_to or_next root fraction initial
initial_fractions = refl

initial_of : (t : ℕ) → t < 8 → get_or initial t 0 ≡ fraction 2 (get_or primes t 0)
unfolding fraction root or_next largest_up_to
initial_of t h =
    ap (λ (l : List ℕ). get_or l t 0) initial_fractions ∙ get_or-map (fraction 2) (take 8 primes) t 0
    ∙ ap (fraction 2) (get_or-take 8 primes t 0 h)

pub initial_rule : (t : ℕ) → t < length initial → FirstBits 2 (get_or primes t 0) (get_or initial t 0)
initial_rule t h =
    subst (FirstBits 2 (get_or primes t 0)) (sym (initial_of t (subst (λ (n : ℕ). t < n) sixty_four.2 h)))
    (fraction_is 2 (get_or primes t 0) (omega arith))
