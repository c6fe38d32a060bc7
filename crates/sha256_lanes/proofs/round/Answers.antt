use Rattle.std.proofs.Common.{refl, arith, rules}
use Rattle.sha256_lanes.specs.RowsLaws.{part_none, part-unchanged, part_next, part-done, unchanged_all}
use Rattle.sha256_lanes.proofs.round.Goals as goal

pub loop-l-init : goal.loop-l-init
loop-l-init c = record { long = search rules; unchanged = unchanged_all _ _; part = part_none _ _ _ _ _ }

pub loop-l-preserved : goal.loop-l-preserved
loop-l-preserved c = record {
  long = search rules;
  unchanged =
      part-unchanged c.args.k c.args.t c.loop-l.l _ _ c.args.w.now c.args.s.now c.loop-l.s _ (omega arith) (omega arith) refl refl c.loop-l.invariant.long
      c.loop-l.invariant.unchanged c.round_at.ensures;
  part =
      part_next c.args.k c.args.t c.loop-l.l _ _ c.args.w.now c.args.s.now c.loop-l.s _ (omega arith) (omega arith) refl refl c.loop-l.invariant.long
      c.loop-l.invariant.unchanged c.round_at.ensures c.loop-l.invariant.part;
}

pub returns : goal.returns
returns c = record {
  unchanged = c.loop-l.invariant.unchanged;
  rounded = part-done c.args.k c.args.t c.loop-l.l _ _ _ (omega arith) (omega arith) c.requires.1 c.loop-l.invariant.part;
}
