use Rattle.std.proofs.Common.{◌≡◌, drop}
use Rattle.refusal.specs.Order.{distinct}
use Rattle.dispatcher.proofs.lists.is_distinct.Given as goal

abbrev pub invariant-loop-i : goal.invariant-loop-i
invariant-loop-i l = distinct l.list ≡ distinct (drop l.i l.list)
