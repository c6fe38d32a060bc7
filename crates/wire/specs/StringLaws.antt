-- Values compared byte by byte, as the library compares slices.
-- Assumes nothing.
use Rattle.std.specs.Prelude.{◌≡◌, refl, Bool, true, false, ◌&&◌, ◌||◌, cond, min, Option, Some, List, [], ◌∷◌, ℕ, zero, suc, ltb, eqb, length, take}
use Rattle.std.specs.declared.cmp.Ordering.{Ordering}
use Rattle.std.specs.declared.cmp.Ordering.TheVariants.{Less, Equal, Greater}
use Rattle.std.specs.Ordering.{nat_cmp, is_lt, is_some_and, partial_ordering_then}
use Rattle.std.specs.Cmp.Lexicographic.{slice_partial_cmp}
use Rattle.std.proofs.Common.{arith}
use Rattle.protocol.specs.Values.{is_lower}

-- the order of two slices, as far as both go
abbrev slices : List ℕ → List ℕ → Option Ordering
slices = slice_partial_cmp (λ (x y : ℕ). Some (nat_cmp x y))

-- one byte, and the rest after it
byte_then : (less same : Bool) (rest : Option Ordering) (lower : Bool) → is_some_and is_lt rest ≡ lower
    → is_some_and is_lt (partial_ordering_then (Some (cond less Less (cond same Equal Greater))) rest) ≡ (less || (same && lower))
byte_then true same rest lower h = refl
byte_then false true rest lower h = h
byte_then false false rest lower h = refl

pub lower_told : (n : ℕ) (xs ys : List ℕ) → n ≡ min (length xs) (length ys) → is_some_and is_lt (slices (take n xs) (take n ys)) ≡ is_lower xs ys
unfolding is_lower
lower_told zero [] ys e = refl
lower_told zero (x ∷ xs) [] e = refl
lower_told zero (x ∷ xs) (y ∷ ys) e = absurd (omega arith)
lower_told (suc n) [] ys e = absurd (omega arith)
lower_told (suc n) (x ∷ xs) [] e = absurd (omega arith)
lower_told (suc n) (x ∷ xs) (y ∷ ys) e =
    byte_then (ltb x y) (eqb x y) (slices (take n xs) (take n ys)) (is_lower xs ys) (lower_told n xs ys (omega arith))
