-- `quorum::with` meets its contract.
-- Assumes nothing.
use borrow.Author.Rules.{rules}
use Rattle.quorum.specs.Quorum.{with, union}
use Rattle.quorum.proofs.with.Statement.{statement}
use Rattle.quorum.proofs.with.Tie as tie

returns : tie.Need-returns
unfolding with union
returns c = cc

pub with_spec : {M : Type 1} → statement M
with_spec = tie.close (tie.spec (λ c κs. search rules) returns)
