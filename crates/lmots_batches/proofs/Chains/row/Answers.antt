use Rattle.std.proofs.Common.{refl, arith, rules}
use Rattle.sha256_lanes.specs.RowsLaws.{front_next}
use Rattle.lmots_batches.proofs.Chains.row.Goals as goal

pub loop-l-preserved : goal.loop-l-preserved
loop-l-preserved c = record { long = search rules; placed = front_next _ _ _ _ c.loop-l.invariant.placed (omega arith) refl }
