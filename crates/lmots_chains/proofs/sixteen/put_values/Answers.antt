use Rattle.std.proofs.Common.{◌≡◌, arith}
use Rattle.lmots_chains.specs.SixteenLaws.{filled_none, filled_next}
use Rattle.lmots_chains.proofs.sixteen.put_values.Goals as goal

pub loop-n-init : goal.loop-n-init
loop-n-init c = filled_none 96 208 _ c.args.w.now (omega arith)

pub loop-n-preserved : goal.loop-n-preserved
loop-n-preserved c =
    filled_next 96 208 _ c.loop-n.n _ c.loop-n.w _ _ (omega arith) (omega arith) (omega arith) c.across.ensures c.loop-n.invariant

pub returns : goal.returns
returns c =
    let all : c.loop-n.n ≡ 112 = omega arith in
    rw all at c.loop-n.invariant
