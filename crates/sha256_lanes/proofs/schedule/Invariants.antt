use Rattle.sha256_lanes.specs.RowsLaws.{Going}
use Rattle.sha256_lanes.proofs.schedule.Given as goal

abbrev pub invariant-loop-n : goal.invariant-loop-n
invariant-loop-n l = Going l.x l.fn.w l.n l.w

abbrev pub invariant-loop-n-2 : goal.invariant-loop-n-2
invariant-loop-n-2 l = Going l.x l.fn.w l.n l.w

abbrev pub invariant-loop-n-3 : goal.invariant-loop-n-3
invariant-loop-n-3 l = Going l.x l.fn.w l.n l.w
