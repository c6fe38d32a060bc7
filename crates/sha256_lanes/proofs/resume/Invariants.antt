use Rattle.sha256_lanes.specs.Rows.{Two}
use Rattle.sha256_lanes.specs.RowsLaws.{worded_a, worded_e}
use Rattle.sha256_lanes.proofs.resume.Given as goal

abbrev pub invariant-loop-n : goal.invariant-loop-n
invariant-loop-n l = Two 928 2016 16 (worded_a l.w l.x) (worded_e l.w l.x) l.n l.initial.s l.s
