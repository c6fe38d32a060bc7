use Rattle.std.proofs.Common.{refl, arith}
use Rattle.sha256_lanes.specs.RowsLaws.{summed_none, summed_next, summed_done}
use Rattle.sha256_lanes.proofs.sums.Goals as goal

pub loop-n-init : goal.loop-n-init
loop-n-init c = summed_none _ _

pub loop-n-preserved : goal.loop-n-preserved
loop-n-preserved c =
    summed_next c.loop-n.n _ c.loop-n.v _ _ _ (omega arith) (omega arith) c.add.ensures c.add-in-loop-n.ensures refl c.loop-n.invariant

pub returns : goal.returns
returns c = summed_done c.loop-n.n _ c.loop-n.v (omega arith) c.loop-n.invariant
