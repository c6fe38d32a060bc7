use Rattle.std.proofs.Common.{arith}
use Rattle.lmots.specs.LeavesLaws.{strings_none, strings_next, strings_done}
use Rattle.lmots.proofs.leaves.put_strings.Goals as goal

pub loop-i-init : goal.loop-i-init
loop-i-init c = strings_none _ _ _ _ c.put_fronts.ensures

pub loop-i-preserved : goal.loop-i-preserved
loop-i-preserved c = strings_next _ _ _ _ _ _ _ c.chain_ends.ensures c.put_ends.ensures c.loop-i.invariant

pub returns : goal.returns
returns c = strings_done _ _ _ _ _ (omega arith) c.loop-i.invariant
