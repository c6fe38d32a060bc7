use Rattle.std.proofs.Common.{◌≡◌, ◌<◌, arith, refl}
use Rattle.collecting.specs.KeepingLaws.{gathering_none, gathering_seat, gathering_all}
use Rattle.collecting.proofs.kept.collect_kept.Goals as goal

pub loop-seat-init : goal.loop-seat-init
loop-seat-init c = gathering_none c.args.r c.args.store.now c.requires

pub loop-seat-preserved : goal.loop-seat-preserved
loop-seat-preserved c =
    let loop = c.loop-seat in
    let below : loop.seat < c.args.r.n = omega arith in
    gathering_seat c.args.r c.args.store.now loop.seat loop.u loop.store loop.invariant below _ _ (omega arith) c.collect_kept_seat-u.ensures

pub returns : goal.returns
returns c =
    let loop = c.loop-seat in
    let all : loop.seat ≡ c.args.r.n = omega arith in
    gathering_all c.args.r c.args.store.now loop.seat loop.u loop.store loop.invariant all _ refl
