-- The bits of a digit.
use Rattle.std.specs.Prelude.{ℕ}
use Rattle.lmots_digits.specs.declared.width.Width.{Width}
use Rattle.lmots_digits.specs.declared.width.Width.TheVariants as width

-- w of a width
abbrev pub bits_of : Width → ℕ
bits_of width.Four = 4
bits_of width.Eight = 8
