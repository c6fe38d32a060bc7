-- `quorum::t0` meets its contract.
-- Assumes nothing.
use borrow.Author.Rules.{rules}
use native.Mathlib.Omega.{arith}
use Rattle.quorum.specs.Quorum.{t0}
use Rattle.quorum.proofs.t0.Statement.{statement}
use Rattle.quorum.proofs.t0.Tie as tie

returns : tie.Need-returns
unfolding t0
returns c = omega arith

pub t0_spec : {M : Type 1} → statement M
t0_spec = tie.close (tie.spec (λ c. search rules) (λ c. search rules) returns)
