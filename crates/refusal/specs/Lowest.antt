-- "The lowest number whose condition holds is returned": numbers that rise, and the lowest whose condition holds.
use Rattle.std.specs.Prelude.{◌≡◌, Bool, true, ◌&&◌, List, [], ◌∷◌, ◌⊎◌, ℕ, ◌≤◌, ltb}

-- each number is above the one before it, and the first above the given one
unfoldable pub rise_from : ℕ → List ℕ → Bool
rise_from m [] = true
rise_from m (n ∷ rest) = ltb m n && rise_from n rest

-- numbers from 1 up, each above the one before it
unfoldable pub rise : List ℕ → Bool
rise ns = rise_from 0 ns

-- the number stands in the list, with a condition that holds
unfoldable pub Holds : ℕ → List (ℕ × Bool) → Type 0
Holds n [] = ⊥
Holds n (c ∷ rest) = ((c.0 ≡ n) × (c.1 ≡ true)) ⊎ Holds n rest

-- n is the lowest number whose condition holds, or 0 where none does
pub record Lowest (n : ℕ) (conditions : List (ℕ × Bool)) : Type 0 where
  pub holds : (n ≡ 0 → ⊥) → Holds n conditions
  pub least : (m : ℕ) → Holds m conditions → n ≤ m
  pub none : n ≡ 0 → (m : ℕ) → Holds m conditions → ⊥
