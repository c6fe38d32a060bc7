use Rattle.std.proofs.Common.{◌≡◌}
use Rattle.octets.specs.Octets.{patch}
use Rattle.octets.specs.Strings.{joined}
use Rattle.lmots.specs.LeavesLaws.{hash}
use Rattle.lmots.proofs.leaves.ots_keys.Given as goal

abbrev pub invariant-loop-l : goal.invariant-loop-l
invariant-loop-l l = l.out ≡ patch 0 (joined (hash l.z) l.l) l.initial.out
