use Rattle.lmots_batches.specs.BatchesLaws.{run_by}
use Rattle.lmots_batches.proofs.run.Goals as goal

pub returns : goal.returns
returns c =
    let rest = c.advance-gone.ensures.rest in
    run_by _ _ _ _ _ _ _ _ _ c.args.chains.counted.1 c.advance-gone.ensures.moved (rw (rest.0, rest.1) at c.finish.ensures)
