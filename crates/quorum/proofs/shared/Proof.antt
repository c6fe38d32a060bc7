-- `quorum::shared` meets its contract.
-- Assumes nothing.
use mathlib.Core.Path.{refl}
use Rattle.quorum.specs.Quorum.{shared}
use Rattle.quorum.proofs.shared.Statement.{statement}
use Rattle.quorum.proofs.shared.Tie as tie

returns : tie.Need-returns
unfolding shared
returns c = refl

pub shared_spec : {M : Type 1} → statement M
shared_spec = tie.close (tie.spec returns)
