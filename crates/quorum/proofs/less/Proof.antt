-- `quorum::less` meets its contract.
-- Assumes nothing.
use borrow.Author.Rules.{rules}
use Rattle.quorum.specs.Quorum.{less}
use Rattle.quorum.proofs.less.Statement.{statement}
use Rattle.quorum.proofs.less.Tie as tie

returns : tie.Need-returns
unfolding less
returns c = cc

pub less_spec : {M : Type 1} → statement M
less_spec = tie.close (tie.spec (λ c κs. search rules) returns)
