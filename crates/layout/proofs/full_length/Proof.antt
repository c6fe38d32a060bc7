-- `layout::full_length` meets its contract.
use native.Mathlib.Omega.{arith}
use Rattle.protocol.specs.Figures.{full_figure}
use borrow.Author.Rules.{rules}
use Rattle.layout.proofs.full_length.Statement.{statement}
use Rattle.layout.proofs.full_length.Tie as tie

returns : tie.Need-returns
returns c = omega (arith, full_figure c.args.n)

pub full_length_spec : {M : Type 1} → statement M
full_length_spec = tie.close (tie.spec (λ c κs. search rules) (λ c. search rules) (λ c. search rules) (λ c. search rules) returns)
