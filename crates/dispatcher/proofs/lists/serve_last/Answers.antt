use Rattle.std.proofs.Common.{◌≡◌, ◌<◌, length, take, get_or, arith, rules}
use Rattle.std.proofs.lemmas.List.{get_or-take}
use Rattle.dispatch.specs.Dispatcher.{serving}
use Rattle.dispatch.specs.Turns.{without}
use Rattle.dispatcher.specs.LoopLaws.{kept_none, kept-other, kept_same, served_count, served_order}
use Rattle.dispatcher.proofs.lists.serve_last.Goals as goal
use Rattle.dispatcher.proofs.lists.serve_last.Goals.{then-other-lane, else-other-lane}

pub loop-other-init : goal.loop-other-init
loop-other-init c = kept_none c.args.d.now.order c.args.lane

pub loop-other-preserved : goal.loop-other-preserved
unfolding serving
loop-other-preserved c =
    let d = c.args.d.now in
    let loop = c.loop-other in
    let eight : length d.order ≡ 8 = search rules in
    let items = c.serving-other-items.result.now in
    let item : get_or items loop.other-index 0 ≡ get_or d.order loop.other-index 0 = rw c.serving-other-items.ensures.lanes (get_or-take d.served d.order loop.other-index 0 (omega arith)) in
    elim c.if-other-lane.branch [
      | then-other-lane w ↦
          rw (w.order-is, w.served-is, item)
          (kept-other d.order c.args.lane loop.other-index loop.served loop.order (omega arith) loop.invariant (rw item at w.if-other-lane.true))
      | else-other-lane w ↦
          rw (w.order-is, w.served-is)
          (kept_same d.order c.args.lane loop.other-index loop.served loop.order (omega arith) loop.invariant (rw item at w.if-other-lane.false))
    ]

pub bounds-order-served-2 : goal.bounds-order-served-2
unfolding serving
bounds-order-served-2 c =
    let d = c.args.d.now in
    let eight : length d.order ≡ 8 = search rules in
    let all : c.loop-other.other-index ≡ d.served = omega arith in
    omega (arith, c.requires.room, rw all at c.loop-other.invariant.counted)

pub returns : goal.returns
unfolding serving
returns c =
    let d = c.args.d.now in
    let loop = c.loop-other in
    let eight : length d.order ≡ 8 = search rules in
    let all : loop.other-index ≡ d.served = omega arith in
    let room : length (without c.args.lane (take d.served d.order)) < length d.order = omega (arith, c.requires.room) in
    rw (
      served_count d.order c.args.lane loop.other-index d.served loop.served loop.order all room loop.invariant,
      served_order d.order c.args.lane loop.other-index d.served loop.served loop.order all room loop.invariant,
    )
