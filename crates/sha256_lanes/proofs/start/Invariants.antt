use Rattle.sha256_lanes.specs.RowsLaws.{Begun}
use Rattle.sha256_lanes.proofs.start.Given as goal

abbrev pub invariant-loop-n : goal.invariant-loop-n
invariant-loop-n l = Begun l.n l.h l.s
