-- The width that a type says is that of its signatures; and tests of an option.
-- Assumes nothing.
use Rattle.std.specs.Prelude.{◌≡◌, refl, Bool, true, false, not}
use Rattle.rfc8554.specs.Ots as Ots
use Rattle.lmots_digits.specs.declared.width.Width.{Width}
use Rattle.lmots_digits.specs.declared.width.Width.TheVariants as width
use Rattle.lmots_digits.specs.Width.{bits_of}
use Rattle.lms.specs.Types.{ots_type}

pub bits_of-type : (w : Width) → bits_of w ≡ Ots.width (ots_type w)
unfolding Ots.width
bits_of-type width.Four = refl
bits_of-type width.Eight = refl

-- the answer of `is_none`
pub not_swapped : (a r : Bool) → a ≡ not r → r ≡ not a
not_swapped a true e = rw e refl
not_swapped a false e = rw e refl
