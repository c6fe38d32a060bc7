use Rattle.std.proofs.Common.{arith, rules}
use Rattle.lmots.specs.LeavesLaws.{put_next}
use Rattle.lmots.proofs.leaves.put_ends.Goals as goal

pub loop-l-preserved : goal.loop-l-preserved
loop-l-preserved c =
    put_next _ _ _ _ _ _ _ (omega arith) c.requires (search rules) c.column-y.ensures c.put_words.ensures c.loop-l.invariant
