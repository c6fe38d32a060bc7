use Rattle.std.proofs.Common.{refl, ◌∙◌}
use Rattle.lmots_batches.specs.BatchesLaws.{moved_none, moved_then}
use Rattle.lmots_batches.proofs.advance.Goals as goal

pub loop-init : goal.loop-init
loop-init c = record { same_n = refl; same_ends = refl; moved = moved_none _ _ _ _ _ c.args.chains.ordered }

pub loop-preserved : goal.loop-preserved
loop-preserved c =
    let inv = c.loop.invariant in
    let rest = c.batch-gone.ensures.rest in
    record {
      same_n = rest.0 ∙ inv.same_n;
      same_ends = rest.1 ∙ inv.same_ends;
      moved = moved_then _ _ _ _ _ _ _ _ _ inv.moved (rw inv.same_ends at c.batch-gone.ensures.moved);
    }
