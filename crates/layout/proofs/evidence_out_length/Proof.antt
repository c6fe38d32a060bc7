-- `layout::evidence_out_length` meets its contract.
use native.Mathlib.Omega.{arith}
use Rattle.protocol.specs.Figures.{evidence-out_figure}
use borrow.Author.Rules.{rules}
use Rattle.layout.proofs.evidence_out_length.Statement.{statement}
use Rattle.layout.proofs.evidence_out_length.Tie as tie

returns : tie.Need-returns
returns c = omega (arith, evidence-out_figure c.args.n)

pub evidence_out_length_spec : {M : Type 1} → statement M
evidence_out_length_spec = tie.close (tie.spec (λ c κs. search rules) (λ c. search rules) (λ c. search rules) (λ c. search rules) returns)
