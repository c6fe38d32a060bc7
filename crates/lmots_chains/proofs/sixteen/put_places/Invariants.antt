use Rattle.lmots_chains.specs.Sixteen.{Placed}
use Rattle.lmots_chains.proofs.sixteen.put_places.Given as goal

abbrev pub invariant-loop-l : goal.invariant-loop-l
invariant-loop-l l = Placed l.l l.places.words l.t l.v l.initial.w l.w
