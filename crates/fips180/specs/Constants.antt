-- The constants of FIPS 180-4.
use Rattle.std.specs.Prelude.{ℕ, List, [], ◌∷◌, map}
use Rattle.fips180.specs.Rule.{primes, fraction}

-- the 64 round constants, section 4.2.2: "the first thirty-two bits of the fractional parts of the cube roots of the first
-- sixty-four prime numbers"
unfoldable pub constants : List ℕ
constants = map (fraction 3) primes

-- the initial hash value, section 5.3.3
unfoldable pub initial : List ℕ
initial =
    0x6a09e667 ∷ 0xbb67ae85 ∷ 0x3c6ef372 ∷ 0xa54ff53a ∷ 0x510e527f ∷ 0x9b05688c ∷ 0x1f83d9ab ∷ 0x5be0cd19 ∷ []
