use Rattle.std.proofs.Common.{◌≡◌}
use Rattle.octets.specs.Octets.{bytes}
use Rattle.lms.specs.Pieces.{inners_put}
use Rattle.lms.proofs.tree.put_inners.Given as goal

abbrev pub invariant-loop-t : goal.invariant-loop-t
invariant-loop-t l = l.tree ≡ inners_put (bytes l.id) l.t l.initial.tree
