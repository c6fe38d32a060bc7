-- Sixteen leaves, one in each column: the hash inputs of their keys, in strings of 1,110 bytes, one after the other in z.
use Rattle.std.specs.Prelude.{◌≡◌, List, ◌++◌, ℕ, ◌+◌, ◌*◌, ◌≤◌, ◌<◌, length}
use Rattle.octets.specs.Octets.{part, bytes}
use Rattle.octets.specs.Strings.{joined}
use Rattle.sha256_lanes.specs.Rows.{column}
use Rattle.rfc8554.specs.Ots.{key_input, chain_end}

-- the hash input of leaf q's key, up to the end of n chains
unfoldable pub string : List ℕ → ℕ → List ℕ → ℕ → List ℕ
string I q seed n = key_input I q (joined (chain_end I q 8 seed) n)

-- z' is z with the value of column l as the end of chain i in string l, for the columns before n; the rest of a string is
-- free
pub record Put (n i : ℕ) (v z z' : List ℕ) : Type 0 where
  pub long : length z' ≡ 17760
  pub new : (l : ℕ) → l < n → part (1110 * l) (22 + 32 * i + 32) z' ≡ part (1110 * l) (22 + 32 * i) z ++ bytes (column l 8 v)
  pub old : (l : ℕ) → n ≤ l → l < 16 → part (1110 * l) (22 + 32 * i) z' ≡ part (1110 * l) (22 + 32 * i) z
