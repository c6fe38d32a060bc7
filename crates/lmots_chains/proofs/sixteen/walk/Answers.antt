use Rattle.std.proofs.Common.{◌≡◌, ◌∙◌, refl, arith}
use Rattle.lmots_chains.specs.SixteenLaws.{all_none, all_next}
use Rattle.lmots_chains.proofs.sixteen.walk.Goals as goal

pub loop-t-init : goal.loop-t-init
loop-t-init c = record { same = refl; walked = all_none _ _ _ _ _ }

pub loop-t-preserved : goal.loop-t-preserved
loop-t-preserved c =
    let same : c.step.new.lanes.shares ≡ c.args.lanes.now.shares = c.step.ensures.same ∙ c.loop-t.invariant.same in
    record {
      same = same;
      walked = all_next _ c.loop-t.t _ _ _ _ c.loop-t.lanes.schedule c.loop-t.lanes.state c.loop-t.v _ _ _ c.loop-t.invariant.walked (rw same at c.step.ensures.stepped);
    }

pub returns : goal.returns
returns c =
    let all : c.loop-t.t ≡ c.args.count = omega arith in
    rw all at c.loop-t.invariant.walked
