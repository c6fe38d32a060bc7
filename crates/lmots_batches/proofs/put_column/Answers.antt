use Rattle.std.proofs.Common.{arith, rules}
use Rattle.lmots_batches.specs.BatchesLaws.{column_next, column-others, column-done}
use Rattle.lmots_batches.proofs.put_column.Goals as goal

pub loop-r-preserved : goal.loop-r-preserved
loop-r-preserved c =
    let inv = c.loop-r.invariant in
    record {
      put = column_next _ _ _ _ (omega arith) (omega arith) (search rules) inv.put;
      before = column-others _ _ _ _ _ (omega arith) inv.before;
    }

pub returns : goal.returns
returns c = (column-done _ _ _ _ (omega arith) (search rules) c.loop-r.invariant.put, c.loop-r.invariant.before)
