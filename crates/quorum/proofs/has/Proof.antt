-- `quorum::has` meets its contract: the shifted mask's lowest bit is the seat's.
-- Assumes nothing.
use mathlib.Core.Path.{ap, ◌∙◌}
use Prim.Native.Nat.{ℕ}
use borrow.Author.Rules.{rules}
use lib.Bits.{and_mask}
use lib.Dec.{eqb}
use Rattle.quorum.specs.Quorum.{has}
use Rattle.quorum.specs.QuorumLaws.{shift_is_bit}
use Rattle.quorum.proofs.has.Statement.{statement}
use Rattle.quorum.proofs.has.Tie as tie

returns : tie.Need-returns
unfolding has
returns c = ap (λ (x : ℕ). eqb x 1) (and_mask _ 1 ∙ shift_is_bit c.args.s c.args.m)

pub has_spec : {M : Type 1} → statement M
has_spec = tie.close (tie.spec (λ c. search rules) returns)
