-- Values: the 32-byte layouts that seats sign.
-- Assumes nothing.
use Rattle.std.specs.Prelude.{ℕ, Bool, false, ◌&&◌, ◌||◌, List, [], ◌∷◌, ltb, eqb, replicate}
use Rattle.protocol.specs.Layout.{value_length}

-- "A value not set is 32 zero bytes."
unfoldable pub unset : List ℕ
unset = replicate value_length 0

-- "a value is 32 bytes compared byte by byte from the first": the one value is lower than the other
unfoldable pub is_lower : List ℕ → List ℕ → Bool
is_lower [] ys = false
is_lower (x ∷ xs) [] = false
is_lower (x ∷ xs) (y ∷ ys) = ltb x y || (eqb x y && is_lower xs ys)
