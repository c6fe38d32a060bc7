use Rattle.std.proofs.Common.{◌≡◌, arith}
use Rattle.sha256_lanes.specs.RowsLaws.{going_none, going_next, going_done}
use Rattle.sha256_lanes.proofs.schedule.Goals as goal

pub loop-n-init : goal.loop-n-init
loop-n-init c = going_none _ _

pub loop-n-preserved : goal.loop-n-preserved
loop-n-preserved c = going_next _ _ c.loop-n.w c.loop-n.n _ (omega arith) (omega arith) c.scheduled_first.ensures c.loop-n.invariant

pub loop-n-2-init : goal.loop-n-2-init
loop-n-2-init c =
    let at : c.loop-n.n ≡ 288 = omega arith in
    rw at at c.loop-n.invariant

pub loop-n-2-preserved : goal.loop-n-2-preserved
loop-n-2-preserved c = going_next _ _ c.loop-n-2.w c.loop-n-2.n _ (omega arith) (omega arith) c.scheduled_next.ensures c.loop-n-2.invariant

pub loop-n-3-init : goal.loop-n-3-init
loop-n-3-init c =
    let at : c.loop-n-2.n ≡ 320 = omega arith in
    rw at at c.loop-n-2.invariant

pub loop-n-3-preserved : goal.loop-n-3-preserved
loop-n-3-preserved c = going_next _ _ c.loop-n-3.w c.loop-n-3.n _ (omega arith) (omega arith) (λ h. c.scheduled.ensures) c.loop-n-3.invariant

pub returns : goal.returns
returns c = record { same = c.loop-n-3.invariant.same; w_after = going_done _ _ c.loop-n-3.w c.loop-n-3.n (omega arith) c.loop-n-3.invariant }
