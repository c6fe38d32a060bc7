use Rattle.sha256_lanes.specs.RowsLaws.{Spread}
use Rattle.sha256_lanes.proofs.spread.Given as goal

abbrev pub invariant-loop-n : goal.invariant-loop-n
invariant-loop-n l = Spread l.n l.m l.w
