-- All chains of a leaf, sixteen at a time: up to 67 values of 32 bytes in z, each with its place in its chain.
use Rattle.std.specs.Prelude.{◌≡◌, ◌⊎◌, List, ℕ, ◌+◌, ◌-◌, ◌*◌, ◌≤◌, ◌<◌, get_or}
use Rattle.octets.specs.Octets.{part, bytes}
use Rattle.sha256_lanes.specs.Rows.{column}
use Rattle.rfc8554.specs.Ots.{chain}

-- no place is past its end, and every end is a place
pub record Ordered (places ends : List ℕ) : Type 0 where
  pub before : (i : ℕ) → i < 67 → get_or places i 0 ≤ get_or ends i 0
  pub within : (i : ℕ) → i < 67 → get_or ends i 0 ≤ 255

-- chain i stays at its place
pub record Stayed (places z next z' : List ℕ) (i : ℕ) : Type 0 where
  pub on : get_or next i 0 ≡ get_or places i 0
  pub value : part (32 * i) 32 z' ≡ part (32 * i) 32 z

-- chain i has gone `count` places on: its value is column `at` of v, one of the first n
pub record Advanced (n : ℕ) (picks places : List ℕ) (count : ℕ) (v next z' : List ℕ) (i : ℕ) : Type 0 where
  pub at : ℕ
  pub early : at < n
  pub mine : get_or picks at 0 ≡ i
  pub on : get_or next i 0 ≡ get_or places i 0 + count
  pub value : part (32 * i) 32 z' ≡ bytes (column at 8 v)

unfoldable pub Scattered : ℕ → List ℕ → List ℕ → ℕ → List ℕ → List ℕ → List ℕ → List ℕ → ℕ → Type 0
Scattered n picks places count v z next z' i = Stayed places z next z' i ⊎ Advanced n picks places count v next z' i

-- chain i has gone on, and not past its end
pub record MovedAt (I : List ℕ) (q : ℕ) (ends places z next z' : List ℕ) (i : ℕ) : Type 0 where
  pub low : get_or places i 0 ≤ get_or next i 0
  pub high : get_or next i 0 ≤ get_or ends i 0
  pub value : part (32 * i) 32 z' ≡ chain I q i (get_or places i 0) (get_or next i 0 - get_or places i 0) (part (32 * i) 32 z)

unfoldable pub Moved : List ℕ → ℕ → List ℕ → List ℕ → List ℕ → List ℕ → List ℕ → Type 0
Moved I q ends places z next z' = (i : ℕ) → i < 67 → MovedAt I q ends places z next z' i

-- chain i at its end
unfoldable pub ended : List ℕ → ℕ → List ℕ → List ℕ → List ℕ → ℕ → List ℕ
ended I q places ends z i = chain I q i (get_or places i 0) (get_or ends i 0 - get_or places i 0) (part (32 * i) 32 z)
