-- The numbers of the types that the code has as enums (RFC 8554, sections 4.1 and 5.1).
-- Assumes nothing.
use Rattle.std.specs.Prelude.{ℕ}
use Rattle.lmots_digits.specs.declared.width.Width.{Width}
use Rattle.lmots_digits.specs.declared.width.Width.TheVariants as width
use Rattle.lms.specs.declared.types.TreeType.{TreeType}
use Rattle.lms.specs.declared.types.TreeType.TheVariants as tree

-- of a tree with 5 or with 10 levels
abbrev pub tree_type : TreeType → ℕ
tree_type tree.Five = 5
tree_type tree.Ten = 6

-- of a one-time signature with digits of 4 or of 8 bits
abbrev pub ots_type : Width → ℕ
ots_type width.Four = 3
ots_type width.Eight = 4
