use Rattle.sha256_lanes.specs.Rows.{Two}
use Rattle.sha256_lanes.specs.RowsLaws.{first_share, next_share}
use Rattle.sha256_lanes.proofs.shares.Given as goal

abbrev pub invariant-loop-n : goal.invariant-loop-n
invariant-loop-n l = Two 0 32 32 (first_share l.w) (next_share l.w) l.n l.initial.x l.x
