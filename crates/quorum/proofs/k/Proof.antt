-- `quorum::k` meets its contract.
-- Assumes nothing.
use borrow.Author.Rules.{rules}
use native.Mathlib.Omega.{arith}
use Rattle.quorum.specs.Quorum.{t0, k}
use Rattle.quorum.proofs.k.Statement.{statement}
use Rattle.quorum.proofs.k.Tie as tie

sub-result : tie.Need-overflow_sub-result
unfolding t0
sub-result c = omega arith

returns : tie.Need-returns
unfolding k
returns c = omega arith

pub k_spec : {M : Type 1} → statement M
k_spec = tie.close (tie.spec (λ c κs. search rules) sub-result returns)
