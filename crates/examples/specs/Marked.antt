-- The twelve cases that document 01 marks with *: one table, and one computed proof of the whole.
-- Assumes nothing.
use Rattle.std.specs.Prelude.{◌≡◌, refl, List, [], ◌∷◌, map, ℕ, length, replicate}
use Rattle.std.specs.Int.Count.{ones}
use Rattle.octets.specs.Octets.{be}
use Rattle.quorum.specs.Quorum.{t0, k, size, shared}
use Rattle.rfc8554.specs.Ots.{coef, digits, left_shift, sum, checksum, with_checksum}

pub data Case : Type 0 where
  -- "n: t0, k"
  Fleet : (n least quorum : ℕ) → Case
  -- "masks a and b share mask m, c seats"
  Masks : (a b m c : ℕ) → Case
  -- "All bytes b: c = .., digits .. and .." of a digest, for width 8
  Bytes : (b c high low : ℕ) → Case

-- the table, in the document's order. For bytes of 255 the document leaves out c, which is 0.
unfoldable pub marked : List Case
marked =
    Fleet 1 0 1
    ∷ Fleet 2 0 2
    ∷ Fleet 3 0 3
    ∷ Fleet 4 1 3
    ∷ Fleet 7 2 5
    ∷ Fleet 10 3 7
    ∷ Fleet 31 10 21
    ∷ Fleet 32 10 22
    ∷ Masks 7 14 6 2
    ∷ Masks 15 30 14 3
    ∷ Bytes 0 8160 31 224
    ∷ Bytes 255 0 0 0
    ∷ []

-- a row with the definitions' results in place of its own
unfoldable pub computed : Case → Case
computed (Fleet n least quorum) = Fleet n (t0 n) (k n)
computed (Masks a b m c) = Masks a b (shared a b) (size (shared a b))
computed (Bytes b c high low) =
    let digest = replicate 32 b in
    Bytes b (checksum 8 digest) (coef 8 (with_checksum 8 digest) 32) (coef 8 (with_checksum 8 digest) 33)

pub twelve : length marked ≡ 12
unfolding marked
twelve = refl

pub marked-hold : map computed marked ≡ marked
unfolding computed marked t0 k shared ones coef digits left_shift sum checksum with_checksum be
marked-hold = refl
