use Rattle.std.proofs.Common.{◌≡◌, ◌*◌}
use Rattle.octets.specs.Octets.{patch, bytes}
use Rattle.rfc8554.specs.Tree.{nodes}
use Rattle.lms.proofs.tree.put_leaves.Given as goal

abbrev pub invariant-loop-n : goal.invariant-loop-n
invariant-loop-n l = l.tree ≡ patch (32 * 1024) (nodes 10 8 (bytes l.id) (bytes l.seed) 1024 (16 * l.n)) l.initial.tree
