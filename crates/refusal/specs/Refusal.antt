-- Refusals (document 01, "What is turned back"): a call has a list of rows, each a number with its condition, and answers the first
-- that holds. "A refusal returns its number and 0 bytes written; record, store, tree and out keep every byte."
use Rattle.std.specs.Prelude.{ℕ, zero, suc, Bool, true, cond, ◌&&◌, List, [], ◌∷◌, leb}

-- the number of the first row whose condition holds; 0 where none does
unfoldable pub first_of : List (ℕ × Bool) → ℕ
first_of [] = 0
first_of (c ∷ rest) = cond c.1 c.0 (first_of rest)

-- state after a call, by its refusal number: the new one for 0, else the old one
unfoldable pub unrefused {ℓ} : {A : Type ℓ} → ℕ → A → A → A
unrefused zero new old = new
unrefused (suc n) new old = old

-- the numbers of a list of rows
unfoldable pub numbers : List (ℕ × Bool) → List ℕ
numbers [] = []
numbers (c ∷ rest) = c.0 ∷ numbers rest

-- no number of the list is 0, which stands for no refusal
unfoldable pub nonzero : List ℕ → Bool
nonzero [] = true
nonzero (n ∷ rest) = leb 1 n && nonzero rest

infixr 20 ◌before◌
-- the first number where it isn't 0, else the second
unfoldable pub ◌before◌ : ℕ → ℕ → ℕ
zero before n = n
suc m before n = suc m
