use Rattle.lmots.specs.Leaves.{Put}
use Rattle.lmots.proofs.leaves.put_ends.Given as goal

abbrev pub invariant-loop-l : goal.invariant-loop-l
invariant-loop-l l = Put l.l l.i l.v l.initial.z l.z
