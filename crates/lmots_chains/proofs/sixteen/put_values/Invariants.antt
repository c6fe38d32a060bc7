use Rattle.lmots_chains.specs.Sixteen.{Slid}
use Rattle.lmots_chains.proofs.sixteen.put_values.Given as goal

abbrev pub invariant-loop-n : goal.invariant-loop-n
invariant-loop-n l = Slid l.n l.v l.initial.w l.w
