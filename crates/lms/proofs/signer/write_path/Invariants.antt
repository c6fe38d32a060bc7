use Rattle.std.proofs.Common.{◌≡◌, ◌/◌, ◌^◌}
use Rattle.octets.specs.Octets.{patch}
use Rattle.octets.specs.Strings.{joined}
use Rattle.rfc8554.specs.Tree.{path}
use Rattle.lms.proofs.signer.write_path.Given as goal

abbrev pub invariant-loop-i : goal.invariant-loop-i
invariant-loop-i l = record { node : l.x ≡ l.r / 2 ^ l.i; written : l.out ≡ patch l.at (joined (path l.tree l.r) l.i) l.initial.out }
