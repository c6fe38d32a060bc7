-- `quorum::union` meets its contract.
-- Assumes nothing.
use mathlib.Core.Path.{refl}
use Rattle.quorum.specs.Quorum.{union}
use Rattle.quorum.proofs.union.Statement.{statement}
use Rattle.quorum.proofs.union.Tie as tie

returns : tie.Need-returns
unfolding union
returns c = refl

pub union_spec : {M : Type 1} → statement M
union_spec = tie.close (tie.spec returns)
