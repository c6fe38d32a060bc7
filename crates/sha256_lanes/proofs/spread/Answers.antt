use Rattle.std.proofs.Common.{rules, arith}
use Rattle.sha256_lanes.specs.RowsLaws.{spread_none, spread_next, spread_done}
use Rattle.sha256_lanes.proofs.spread.Goals as goal

pub loop-n-init : goal.loop-n-init
loop-n-init c = spread_none _ _

pub loop-n-preserved : goal.loop-n-preserved
loop-n-preserved c = spread_next c.loop-n.n _ c.loop-n.w (omega arith) c.loop-n.invariant

pub returns : goal.returns
returns c = spread_done c.loop-n.n _ c.loop-n.w (omega arith) (search rules) c.loop-n.invariant
