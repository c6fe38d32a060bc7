-- Numbers in a written order, and the first of them whose condition holds.
use Rattle.std.specs.Prelude.{Bool, true, false, cond, not, ◌&&◌, ◌||◌, List, [], ◌∷◌, ℕ, eqb}

-- the number is in the list
unfoldable pub is_in : ℕ → List ℕ → Bool
is_in n [] = false
is_in n (m ∷ rest) = eqb m n || is_in n rest

-- no number is in the list twice
unfoldable pub distinct : List ℕ → Bool
distinct [] = true
distinct (n ∷ rest) = not (is_in n rest) && distinct rest

-- the numbers of the list stand in the order, one after another
unfoldable pub follows : List ℕ → List ℕ → Bool
follows order [] = true
follows [] (n ∷ rest) = false
follows (o ∷ order) (n ∷ rest) = cond (eqb o n) (follows order rest) (follows order (n ∷ rest))

-- a row of the list has the number, and its condition holds
unfoldable pub held : List (ℕ × Bool) → ℕ → Bool
held [] n = false
held (c ∷ rest) n = c.1 && eqb c.0 n || held rest n

-- the first number of the order that passes a test; 0 where none does
unfoldable pub first_in : List ℕ → (ℕ → Bool) → ℕ
first_in [] test = 0
first_in (n ∷ order) test = cond (test n) n (first_in order test)
