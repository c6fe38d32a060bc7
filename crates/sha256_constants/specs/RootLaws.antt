-- Cube roots, rounded down, as the code finds them.
use Rattle.std.specs.Prelude.{◌≡◌, refl, Bool, true, false, ◌↔◌, ℕ, ◌+◌, ◌*◌, ◌/◌, ◌-◌, ◌%◌, ◌^◌, ◌≤◌, ◌<◌, leb}
use Rattle.std.proofs.Common.{sym, subst, ◌∙◌, ap, add_assoc, one-mul, pow-suc, le_of_lt, lt_of_le_of_lt, lt_of_not-le, not-le_of_lt, mul-le-mul, mul-le-mul_left, mul-le-mul_right, mul-lt-mul_of_pos_right, div-mul-le_self, le-leb, leb-true, leb-false, shl_exact}
use Rattle.std.proofs.Math.Nat.{pow-zero, one-le-pow, div-le_of_le-mul, lt-div-mul-add}
use native.Mathlib.Omega.{arith, by_contra}
use Rattle.std.proofs.lemmas.Bool.{lt-leb}
use Rattle.fips180.specs.Rule.{IsIntegerRoot, root, fraction}
use Rattle.fips180.specs.RuleLaws.{mul_pow, base_lt, root_unique, root_is}

-- ---- cubes

pub cube : (x : ℕ) → x ^ 3 ≡ x * x * x
cube x = rw (pow-suc x 2, pow-suc x 1, pow-suc x 0, pow-zero x, one-mul x)

-- the cube root of a number below 2 to the 57 is below 2 to the 19
pub root_lt : {x m : ℕ} → x ^ 3 ≤ m → m < 2 ^ 57 → x < 2 ^ 19
root_lt h k = base_lt 3 (lt_of_le_of_lt h k)

-- ---- `fits`

same_test : (a b c d : ℕ) → (a ≤ b) ↔ (c ≤ d) → leb a b ≡ leb c d
same_test a b c d h = go (leb c d) refl
  where
    go : (t : Bool) → leb c d ≡ t → leb a b ≡ t
    go true e = le-leb a b (h.1 (leb-true c d e))
    go false e = lt-leb a b (lt_of_not-le (λ p. not-le_of_lt (leb-false c d e) (h.0 p)))

-- a quotient may be rounded up where it is compared with whole numbers
round_up : (s a y c : ℕ) → 1 ≤ s → (a + (y + (s - 1)) / s ≤ c) ↔ (a * s + y ≤ c * s)
round_up s a y c h = (
  λ p. omega (arith, mul-le-mul_right s p, lt-div-mul-add {a = y + (s - 1)} h),
  λ p. by_contra _ _ (λ q. omega (arith, mul-le-mul_right s q, div-mul-le_self (y + (s - 1)) s)),
)

pub fits-test : (a rest s d : ℕ) → 1 ≤ s
    → leb (3 * a * a * d + (3 * a * d * d + (d * d * d + (s - 1)) / s + (s - 1)) / s) (rest * s) ≡ leb ((a * s + d) ^ 3) ((a ^ 3 + rest) * s ^ 3)
fits-test a rest s d h =
    let outer = round_up s (3 * a * a * d) (3 * a * d * d + (d * d * d + (s - 1)) / s) (rest * s) h in
    let inner = round_up s (3 * a * a * d * s + 3 * a * d * d) (d * d * d) (rest * s * s) h in
    rw (cube (a * s + d), cube a, cube s)
    (same_test _ _ ((a * s + d) * (a * s + d) * (a * s + d)) ((a * a * a + rest) * (s * s * s)) (
      λ p. omega (arith, inner.0 (rw add_assoc (outer.0 p))),
      λ p. outer.1 (rw (← add_assoc) (inner.1 (omega arith))),
    ))

-- ---- `longer`

-- a d that isn't too high
first_fits : (a rest s d : ℕ) → d * (3 * a * a + 3 * a + 1) ≤ rest * s → d ≤ s → (a * s + d) ^ 3 ≤ (a ^ 3 + rest) * s ^ 3
first_fits a rest s d h k =
    rw (cube (a * s + d), cube a, cube s)
    (omega (arith, mul-le-mul_right (s * s) h, mul-le-mul_left (3 * a * d * s) k, mul-le-mul_left d (mul-le-mul k k)))

module _ {m a : ℕ} (root : IsIntegerRoot 3 m a) where
  cube_le : a * a * a ≤ m
  cube_le = rw (cube a) at root.below

  whole : a ^ 3 + (m - a * a * a) ≡ m
  whole = rw (cube a) (omega (arith, cube_le))

  rest_lt : m - a * a * a < 3 * a * a + 3 * a + 1
  rest_lt = omega (arith, rw (cube (a + 1)) at root.above)

  -- the first d
  pub first_below : (s : ℕ) → (a * s + (m - a * a * a) * s / (3 * a * a + 3 * a + 1)) ^ 3 ≤ m * s ^ 3
  first_below s = rw whole at (first_fits a (m - a * a * a) s _ (div-mul-le_self _ _) (div-le_of_le-mul _ (mul-le-mul_right s (le_of_lt rest_lt))))

  -- a d that fits is below s
  pub digit_lt : {s d : ℕ} → 1 ≤ s → (a * s + d) ^ 3 ≤ m * s ^ 3 → d < s
  digit_lt {s} {d} h p =
      omega (arith, base_lt 3 {x = a * s + d} {y = (a + 1) * s} (lt_of_le_of_lt p (rw (mul_pow (a + 1) s 3) (mul-lt-mul_of_pos_right root.above (one-le-pow 3 s h)))))

  -- t says whether d + 1 fits
  module _ (s d : ℕ) {t : Bool} (e : t ≡ leb ((a * s + (d + 1)) ^ 3) ((a ^ 3 + (m - a * a * a)) * s ^ 3)) where
    pub next_below : t ≡ true → (a * s + (d + 1)) ^ 3 ≤ m * s ^ 3
    next_below f = leb-true _ _ (rw whole at (sym e ∙ f))

    pub last_root : t ≡ false → (a * s + d) ^ 3 ≤ m * s ^ 3 → IsIntegerRoot 3 (m * s ^ 3) (a * s + d)
    last_root f p = record { below = p; above = rw add_assoc (leb-false _ _ (rw whole at (sym e ∙ f))) }

-- how large the numbers are
pub longer_sizes : {m a s : ℕ} → IsIntegerRoot 3 m a × (m < 2 ^ 57) × (1 ≤ s) × (s ≤ 2 ^ 16)
    → (a < 2 ^ 19) × (a * a ≤ 2 ^ 38) × (a * a * a ≤ m) × (m - a * a * a < 2 ^ 40) × ((m - a * a * a) * s ≤ 2 ^ 56) × (a * s ≤ 2 ^ 35)
longer_sizes {m} {a} h =
    let low : a < 2 ^ 19 = root_lt h.0.below h.1 in
    let aa : a * a ≤ 2 ^ 38 = mul-le-mul (le_of_lt low) (le_of_lt low) in
    let rest : m - a * a * a < 2 ^ 40 = omega (arith, rest_lt h.0) in
    (low, aa, cube_le h.0, rest, mul-le-mul (le_of_lt rest) h.3, mul-le-mul (le_of_lt low) h.3)

-- ---- the fraction, from the root with 32 bits after the point

pub fraction_of : (p x : ℕ) → p < 2 ^ 9 → IsIntegerRoot 3 (p * 2 ^ 48 % 2 ^ 64 * 65536 ^ 3) x → x % 2 ^ 32 ≡ fraction 3 p
unfolding fraction
fraction_of p x h r =
    let whole-number : p * 2 ^ 48 % 2 ^ 64 * 65536 ^ 3 ≡ p * (2 ^ 32) ^ 3 = ap (λ (m : ℕ). m * 65536 ^ 3) (shl_exact 9 48 64 h (omega arith)) ∙ omega arith in
    ap (λ (r : ℕ). r % 2 ^ 32)
    (root_unique 3 (p * (2 ^ 32) ^ 3) x (root 3 p 32) (subst (λ (m : ℕ). IsIntegerRoot 3 m x) whole-number r) (root_is 3 p 32 (omega arith)))
