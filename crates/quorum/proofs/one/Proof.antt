-- `quorum::one` meets its contract: a shift below the width loses nothing.
-- Assumes nothing.
use mathlib.Core.Path.{◌∙◌}
use borrow.Author.Rules.{rules}
use native.Mathlib.Nat.{one-mul}
use native.Mathlib.Omega.{arith}
use lib.Dec.{lit<}
use lib.Pow.{shl_exact}
use Rattle.quorum.specs.Quorum.{most_seats}
use Rattle.quorum.proofs.one.Statement.{statement}
use Rattle.quorum.proofs.one.Tie as tie

returns : tie.Need-returns
returns c = shl_exact 1 c.args.s most_seats (lit< tt) (omega arith) ∙ one-mul _

pub one_spec : {M : Type 1} → statement M
one_spec = tie.close (tie.spec (λ c. search rules) returns)
