use Rattle.lmots_batches.specs.BatchesLaws.{moved_by, moved-ordered}
use Rattle.lmots_batches.proofs.batch.Goals as goal

pub returns-clause-moved : goal.returns-clause-moved
returns-clause-moved c =
    moved_by _ _ _ _ _ _ _ _ _ _ _ _ c.args.chains.now.ordered c.args.picks.now.known c.together-count.ensures.1 c.row-at.ensures
    c.gather.ensures c.steps.ensures c.scatter-places.ensures

pub invariant_of-result : goal.invariant_of-result
invariant_of-result c =
    record {
      counted = c.args.chains.now.counted;
      ordered =
          moved-ordered _ _ _ _ _ _ _ c.args.chains.now.ordered
          (moved_by _ _ _ _ _ _ _ _ _ _ _ _ c.args.chains.now.ordered c.args.picks.now.known c.together-count.ensures.1 c.row-at.ensures
          c.gather.ensures c.steps.ensures c.scatter-places.ensures);
    }
