use Rattle.sha256_lanes.specs.RowsLaws.{Summed}
use Rattle.sha256_lanes.proofs.sums.Given as goal

abbrev pub invariant-loop-n : goal.invariant-loop-n
invariant-loop-n l = Summed l.n l.s l.v
