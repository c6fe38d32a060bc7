use Rattle.std.proofs.Common.{refl, arith, rules}
use Rattle.sha256_lanes.specs.RowsLaws.{front_next}
use Rattle.lmots_batches.specs.BatchesLaws.{column-read}
use Rattle.lmots_batches.proofs.column.Goals as goal

pub loop-r-preserved : goal.loop-r-preserved
loop-r-preserved c = record { long = search rules; read = front_next _ _ _ _ c.loop-r.invariant.read (omega arith) refl }

pub returns : goal.returns
returns c = column-read _ _ _ _ (omega arith) c.loop-r.invariant.long c.loop-r.invariant.read
