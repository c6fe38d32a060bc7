-- `quorum::names_outside` meets its contract: a mask above that of all n seats is 2 to the n or more.
-- Assumes nothing.
use borrow.Author.Rules.{rules}
use lib.Pow.{suc_ones}
use Rattle.quorum.specs.Quorum.{all, outside}
use Rattle.quorum.proofs.names_outside.Statement.{statement}
use Rattle.quorum.proofs.names_outside.Tie as tie

returns : tie.Need-returns
unfolding outside all
returns c = rw (← suc_ones c.before.args.n, c.all.ensures)

pub names_outside_spec : {M : Type 1} → statement M
names_outside_spec = tie.close (tie.spec (λ c κs. search rules) returns)
