use Rattle.std.proofs.Common.{◌≡◌}
use Rattle.octets.specs.Octets.{patch, bytes}
use Rattle.octets.specs.Strings.{joined}
use Rattle.rfc8554.specs.Ots.{start}
use Rattle.lmots.proofs.key.write_starts.Given as goal

abbrev pub invariant-loop-i : goal.invariant-loop-i
invariant-loop-i l = l.z ≡ patch 0 (joined (start (bytes l.id) l.q (bytes l.seed)) l.i) l.initial.z
