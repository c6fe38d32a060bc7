use Rattle.std.proofs.Common.{◌≡◌}
use Rattle.octets.specs.Octets.{patch, bytes}
use Rattle.octets.specs.Strings.{joined}
use Rattle.lmots_batches.specs.Batches.{ended}
use Rattle.lmots_batches.proofs.finish.Given as goal

abbrev pub invariant-loop-i : goal.invariant-loop-i
invariant-loop-i l = l.z ≡ patch 0 (joined (ended (bytes l.id) l.q l.chains.places l.chains.ends l.initial.z) l.i) l.initial.z
