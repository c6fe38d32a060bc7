-- `layout::joined_out_length` meets its contract.
use native.Mathlib.Omega.{arith}
use Rattle.protocol.specs.Figures.{joined-out_figure}
use borrow.Author.Rules.{rules}
use Rattle.layout.proofs.joined_out_length.Statement.{statement}
use Rattle.layout.proofs.joined_out_length.Tie as tie

returns : tie.Need-returns
returns c = omega (arith, joined-out_figure c.args.n)

pub joined_out_length_spec : {M : Type 1} → statement M
joined_out_length_spec = tie.close (tie.spec (λ c. search rules) (λ c. search rules) returns)
