use Rattle.octets.specs.Octets.{bytes}
use Rattle.lmots.specs.LeavesLaws.{Strings}
use Rattle.lmots.proofs.leaves.put_strings.Given as goal

abbrev pub invariant-loop-i : goal.invariant-loop-i
invariant-loop-i l = Strings (bytes l.id) l.leaves (bytes l.seed) l.i l.z
