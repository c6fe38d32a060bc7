-- `layout::out_length` meets its contract.
use native.Mathlib.Omega.{arith}
use borrow.Author.Rules.{rules}
use Rattle.quorum.specs.Quorum.{k}
use Rattle.protocol.specs.Figures.{full_figure, evidence-out_figure, out_figure}
use Rattle.layout.proofs.out_length.Statement.{statement}
use Rattle.layout.proofs.out_length.Tie as tie

add-result-2 : tie.Need-overflow_add-result-2
unfolding k
add-result-2 c = omega (arith, full_figure c.args.n)

add-result-3 : tie.Need-overflow_add-result-3
unfolding k
add-result-3 c = let n = c.args.n in omega (arith, full_figure n, evidence-out_figure n)

returns : tie.Need-returns
returns c = let n = c.args.n in omega (arith, full_figure n, evidence-out_figure n, out_figure n)

pub out_length_spec : {M : Type 1} → statement M
out_length_spec =
    tie.close
    (tie.spec
    (λ c. search rules)
    (λ c κs. search rules)
    add-result-2
    (λ c κs. search rules)
    add-result-3
    returns)
