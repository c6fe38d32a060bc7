-- The order of values.
-- Assumes nothing.
use Rattle.std.specs.Prelude.{◌≡◌, refl, not, List, [], ◌∷◌, ℕ, ◌<◌, length}
use Rattle.std.proofs.Common.{sym, arith, eq-eqb, ne_eqb, lt-ltb, le-ltb}
use Rattle.std.proofs.Math.Decide.{dec_lt}
use Rattle.protocol.specs.Values.{is_lower}

-- of two values of one length that differ, one is lower and not the other
pub lower-other : (xs ys : List ℕ) → length xs ≡ length ys → (xs ≡ ys → ⊥) → is_lower ys xs ≡ not (is_lower xs ys)
unfolding is_lower
lower-other [] [] l h = absurd (h refl)
lower-other [] (y ∷ ys) l h = absurd (omega arith)
lower-other (x ∷ xs) [] l h = absurd (omega arith)
lower-other (x ∷ xs) (y ∷ ys) l h = go (dec_lt x y) (dec_lt y x) (λ d. lower-other xs ys (omega arith) d)
  where
    go : Dec (x < y) → Dec (y < x) → ((xs ≡ ys → ⊥) → is_lower ys xs ≡ not (is_lower xs ys)) → is_lower (y ∷ ys) (x ∷ xs) ≡ not (is_lower (x ∷ xs) (y ∷ ys))
    go (yes a) (yes b) rest = absurd (omega arith)
    go (yes a) (no b) rest = rw (lt-ltb x y a, le-ltb y x (omega arith), ne_eqb y x (λ e. omega arith))
    go (no a) (yes b) rest = rw (lt-ltb y x b, le-ltb x y (omega arith), ne_eqb x y (λ e. omega arith))
    go (no a) (no b) rest =
        let e : x ≡ y = omega arith in
        rw (le-ltb x y (omega arith), le-ltb y x (omega arith), eq-eqb x y e, eq-eqb y x (sym e)) (rest (λ q. h (cc)))
