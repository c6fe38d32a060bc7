use Rattle.std.proofs.Common.{◌≡◌, arith}
use Rattle.sha256_lanes.specs.RowsLaws.{two_none, two_next, first_share, next_share, shares-done}
use Rattle.sha256_lanes.proofs.shares.Goals as goal

pub loop-n-init : goal.loop-n-init
loop-n-init c = two_none 0 32 32 _ _ _

pub loop-n-preserved : goal.loop-n-preserved
unfolding first_share next_share
loop-n-preserved c =
    let made : c.add.result ≡ first_share c.args.w.now c.loop-n.n = cc in
    two_next 0 32 32 _ _ c.loop-n.n c.args.x.now c.loop-n.x _ _ _ _ (omega arith) (omega arith) (omega arith) (omega arith) (omega arith) made
    c.share_at-in-loop-n.ensures c.loop-n.invariant

pub returns : goal.returns
returns c = shares-done c.loop-n.n c.args.w.now c.args.x.now c.loop-n.x (omega arith) c.loop-n.invariant
