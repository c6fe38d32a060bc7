-- Intermediate values of the code that makes a digest.
use Rattle.std.specs.Prelude.{ℕ, cond, List, ltb}
use Rattle.octets.specs.Octets.{words, bytes}
use Rattle.fips180.specs.Constants.{initial}
use Rattle.fips180.specs.Fips.{compress}

-- the end of the padding after a tail of n bytes
unfoldable pub ended : ℕ → ℕ
ended n = cond (ltb n 56) 64 128

-- the digest of a message whose padded form is the one block b
unfoldable pub one_block : List ℕ → List ℕ
one_block b = bytes (compress initial (words 16 b))
