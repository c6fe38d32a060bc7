use Rattle.std.proofs.Common.{refl, arith}
use Rattle.sha256_lanes.specs.RowsLaws.{two_none, two_next, worded_a, worded_e, resume_unchanged, resume_done}
use Rattle.sha256_lanes.proofs.resume.Goals as goal

pub loop-n-init : goal.loop-n-init
loop-n-init c = two_none 928 2016 16 _ _ _

pub loop-n-preserved : goal.loop-n-preserved
unfolding worded_a worded_e
loop-n-preserved c =
    two_next 928 2016 16 _ _ c.loop-n.n c.args.s.now c.loop-n.s _ _ _ _ (omega arith) (omega arith) (omega arith) refl refl c.add.ensures
    c.add-in-loop-n.ensures c.loop-n.invariant

pub returns : goal.returns
returns c = record {
  unchanged = resume_unchanged c.loop-n.n _ _ _ c.loop-n.s (omega arith) c.loop-n.invariant;
  resumed = resume_done c.loop-n.n _ _ _ c.loop-n.s (omega arith) c.loop-n.invariant;
}
