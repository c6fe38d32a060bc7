use Rattle.std.proofs.Common.{arith, rules}
use Rattle.sha256_lanes.specs.RowsLaws.{front_next}
use Rattle.lmots_batches.proofs.Chains.lefts.Goals as goal

pub loop-i-preserved : goal.loop-i-preserved
loop-i-preserved c = record { long = search rules; rests = front_next _ _ _ _ c.loop-i.invariant.rests (omega arith) c.left.ensures }
