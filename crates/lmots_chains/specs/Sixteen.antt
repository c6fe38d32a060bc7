-- Sixteen chains side by side, each with the leaf of its lane: the content of the lanes' blocks.
use Rattle.std.specs.Prelude.{◌≡◌, ◌⊎◌, List, [], ◌∷◌, ℕ, ◌+◌, ◌*◌, ◌/◌, ◌%◌, ◌≤◌, ◌<◌, length, get_or}
use Rattle.octets.specs.Octets.{bytes}
use Rattle.fips180.specs.Constants.{initial}
use Rattle.sha256_lanes.specs.Rows.{column, Common, Two}
use Rattle.rfc8554.specs.Ots.{H, chain, chain_input}
use Rattle.lmots_chains.specs.Pieces.{across}

-- n words of the blocks z from index p on are f's; the words before p and from q on are those of w
pub record Filled (p q : ℕ) (f : ℕ → ℕ) (n : ℕ) (w z : List ℕ) : Type 0 where
  pub long : length z ≡ 1024
  pub new : (i : ℕ) → i < n → get_or z (p + i) 0 ≡ f i
  pub old : (i : ℕ) → (i < p) ⊎ (q ≤ i) → get_or z i 0 ≡ get_or w i 0

-- words 6 to 12, for the values v
abbrev pub Slid : ℕ → List ℕ → List ℕ → List ℕ → Type 0
Slid n v w z = Filled 96 208 (λ i. across (get_or v i 0) (get_or v (i + 16) 0)) n w z

-- word 4, for the leaves' numbers
abbrev pub Numbered : ℕ → List ℕ → List ℕ → List ℕ → Type 0
Numbered n leaves w z = Filled 64 80 (λ l. get_or leaves l 0) n w z

-- words 5 and 13, for the places and values
abbrev pub Placed : ℕ → List ℕ → ℕ → List ℕ → List ℕ → List ℕ → Type 0
Placed n places t v w z =
    Two 80 208 16 (λ l. get_or places l 0 + 256 * t + get_or v l 0 / 16777216 % 256) (λ l. get_or v (l + 112) 0 % 16777216 * 256 + 128) n w z

-- the first five words of a leaf's blocks
unfoldable pub five : List ℕ → ℕ → List ℕ
five id q = get_or id 0 0 ∷ get_or id 1 0 ∷ get_or id 2 0 ∷ get_or id 3 0 ∷ q ∷ []

-- blocks of the lanes' leaves, with their common start
pub record Ready (id leaves w x s : List ℕ) : Type 0 where
  pub long : length id ≡ 4
  pub words : (i : ℕ) → get_or id i 0 < 4294967296
  pub numbers : (l : ℕ) → get_or leaves l 0 < 4294967296
  pub front : (l r : ℕ) → l < 16 → r < 5 → get_or w (16 * r + l) 0 ≡ get_or (five id (get_or leaves l 0)) r 0
  pub zero : (l : ℕ) → l < 16 → get_or w (224 + l) 0 ≡ 0
  pub bits : (l : ℕ) → l < 16 → get_or w (240 + l) 0 ≡ 440
  pub common : Common initial w x s

-- a step of every chain, for all leaves that w, x and s are ready for
unfoldable pub Stepped : List ℕ → ℕ → List ℕ → List ℕ → List ℕ → List ℕ → List ℕ → List ℕ → List ℕ → Type 0
Stepped places t w x s v w' s' v' =
    (id leaves : List ℕ) → Ready id leaves w x s
    → Ready id leaves w' x s'
    × ((l i j : ℕ) → l < 16 → i < 65536 → j + t < 256 → get_or places l 0 ≡ i * 65536 + j * 256
    → bytes (column l 8 v') ≡ H (chain_input (bytes id) (get_or leaves l 0) i (j + t) (bytes (column l 8 v))))

-- every lane has gone t places on, from v₀ to v
unfoldable pub Walked : List ℕ → List ℕ → List ℕ → ℕ → List ℕ → List ℕ → Type 0
Walked id leaves places t v₀ v =
    (l i j : ℕ) → l < 16 → i < 65536 → j + t ≤ 256 → get_or places l 0 ≡ i * 65536 + j * 256
    → bytes (column l 8 v) ≡ chain (bytes id) (get_or leaves l 0) i j t (bytes (column l 8 v₀))

-- the same, for all leaves that w, x and s were ready for
unfoldable pub AllWalked : List ℕ → ℕ → List ℕ → List ℕ → List ℕ → List ℕ → List ℕ → List ℕ → List ℕ → Type 0
AllWalked places t w₀ x s₀ v₀ w s v = (id leaves : List ℕ) → Ready id leaves w₀ x s₀ → Ready id leaves w x s × Walked id leaves places t v₀ v
