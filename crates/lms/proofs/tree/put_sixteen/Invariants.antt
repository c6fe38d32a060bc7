use Rattle.std.proofs.Common.{◌≡◌, ◌+◌, ◌*◌}
use Rattle.octets.specs.Octets.{patch, bytes}
use Rattle.octets.specs.Strings.{joined}
use Rattle.lms.specs.TreeLaws.{leaf_at}
use Rattle.lms.proofs.tree.put_sixteen.Given as goal

abbrev pub invariant-loop-l : goal.invariant-loop-l
invariant-loop-l l = l.tree ≡ patch (32 * (1024 + l.q)) (joined (leaf_at (bytes l.id) l.q l.keys) l.l) l.initial.tree
