-- FIPS 180-4's rule for its constants: the round constants are "the first thirty-two bits of the fractional parts of the cube
-- roots of the first sixty-four prime numbers" (section 4.2.2), the initial hash value those of the square roots of the first
-- eight (section 5.3.3).
use Rattle.std.specs.Prelude.{Bool, true, false, not, cond, List, [], ◌∷◌, ◌++◌, ℕ, zero, suc, ◌+◌, ◌*◌, ◌%◌, ◌^◌, ◌≤◌, ◌<◌, eqb, leb}

-- ---- primes

-- some d from 2 to n + 1 divides m
unfoldable pub divided : ℕ → ℕ → Bool
divided m zero = false
divided m (suc n) = cond (eqb (m % (n + 2)) 0) true (divided m n)

-- a number from 2 on that no smaller one from 2 on divides
unfoldable pub prime : ℕ → Bool
prime zero = false
prime (suc zero) = false
prime (suc (suc n)) = not (divided (suc (suc n)) n)

-- the primes below n, rising
unfoldable pub primes_below : ℕ → List ℕ
primes_below zero = []
primes_below (suc n) = cond (prime n) (primes_below n ++ (n ∷ [])) (primes_below n)

-- the first 64 primes: 311 is the last of them
unfoldable pub primes : List ℕ
primes = primes_below 312

-- ---- roots

-- x is the integer e-th root of m: the root, rounded down
pub record IsIntegerRoot (e m x : ℕ) : Type 0 where
  pub below : x ^ e ≤ m
  pub above : m < (x + 1) ^ e

-- the largest number up to n whose e-th power is at most p, for e from 1 on
unfoldable pub largest_up_to : ℕ → ℕ → ℕ → ℕ
largest_up_to e p zero = 0
largest_up_to e p (suc n) = cond (leb (suc n ^ e) p) (suc n) (largest_up_to e p n)

-- x + 1 if its e-th power is at most m, x otherwise
unfoldable pub or_next : ℕ → ℕ → ℕ → ℕ
or_next e m x = cond (leb ((x + 1) ^ e) m) (x + 1) x

-- the e-th root of p, cut off b bits after the point, times 2 to the b; found bit by bit
unfoldable pub root : ℕ → ℕ → ℕ → ℕ
root e p zero = largest_up_to e p p
root e p (suc b) = or_next e (p * (2 ^ suc b) ^ e) (2 * root e p b)

-- the first 32 bits of the fractional part of the e-th root of p
unfoldable pub fraction : ℕ → ℕ → ℕ
fraction e p = root e p 32 % 2 ^ 32

-- x is the first 32 bits of the fractional part of the e-th root of p, said without a way to find it: with `whole` before the
-- point, whole * 2 ^ 32 + x is that root times 2 to the 32, rounded down
pub record FirstBits (e p x : ℕ) : Type 0 where
  pub whole : ℕ
  pub rounded : IsIntegerRoot e (p * (2 ^ 32) ^ e) (whole * 2 ^ 32 + x)
  pub bits : x < 2 ^ 32
