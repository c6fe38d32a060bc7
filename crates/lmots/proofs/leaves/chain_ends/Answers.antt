use Rattle.lmots.specs.LeavesLaws.{ended_by}
use Rattle.lmots.proofs.leaves.chain_ends.Goals as goal

pub returns : goal.returns
returns c = ended_by _ _ _ _ _ _ _ c.requires c.put_all.ensures c.steps.ensures c.steps-2.ensures
