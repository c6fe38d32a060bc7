use Rattle.std.proofs.Common.{rules, refl, arith}
use Rattle.sha256_lanes.specs.RowsLaws.{begun_none, begun_next, begun-done}
use Rattle.sha256_lanes.proofs.start.Goals as goal

pub loop-n-init : goal.loop-n-init
loop-n-init c = begun_none _ _

pub loop-n-preserved : goal.loop-n-preserved
loop-n-preserved c = begun_next c.loop-n.n _ c.loop-n.s (omega arith) (omega arith) _ refl c.loop-n.invariant

pub returns : goal.returns
returns c = begun-done c.loop-n.n _ c.loop-n.s (omega arith) (search rules) c.loop-n.invariant
