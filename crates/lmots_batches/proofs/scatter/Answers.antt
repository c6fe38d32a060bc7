use Rattle.std.proofs.Common.{refl, arith, rules}
use Rattle.lmots_batches.specs.BatchesLaws.{scattered_none, scattered_next}
use Rattle.lmots_batches.proofs.scatter.Goals as goal

pub loop-l-init : goal.loop-l-init
loop-l-init c = record { long = search rules; values = search rules; scattered = λ i h. scattered_none _ _ _ _ _ i }

pub loop-l-preserved : goal.loop-l-preserved
loop-l-preserved c =
    let inv = c.loop-l.invariant in
    record {
      long = search rules;
      values = search rules;
      scattered =
          scattered_next _ _ _ _ _ _ _ _ _ _ _ refl (c.args.picks.now.known _ (omega arith)) inv.long inv.values c.column-y.ensures c.put_words.ensures
          inv.scattered;
    }
