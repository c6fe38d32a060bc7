use Rattle.std.proofs.Common.{arith, rules}
use Rattle.lmots.specs.LeavesLaws.{fronts_next}
use Rattle.lmots.proofs.leaves.put_fronts.Goals as goal

pub loop-l-preserved : goal.loop-l-preserved
loop-l-preserved c =
    let inv = c.loop-l.invariant in
    record {
      long = search rules;
      fronts = fronts_next _ _ _ _ _ _ (omega arith) inv.long (search rules) c.front-start.ensures c.copy.ensures inv.fronts;
    }
