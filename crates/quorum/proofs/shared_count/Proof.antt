-- `quorum::shared_count` meets its contract.
-- Assumes nothing.
use borrow.Author.Rules.{rules}
use Rattle.quorum.proofs.shared_count.Statement.{statement}
use Rattle.quorum.proofs.shared_count.Tie as tie

returns : tie.Need-returns
returns c = cc

pub shared_count_spec : {M : Type 1} → statement M
shared_count_spec = tie.close (tie.spec (λ c κs. search rules) (λ c κs. search rules) returns)
