use Rattle.std.proofs.Common.{◌∙◌, sym}
use Rattle.dispatch_claims.specs.CallsLaws.{holds}
use Rattle.dispatcher.specs.TurnsLaws.{served_lane, ago-here, ago-later, ago_none}
use Rattle.dispatcher.proofs.turns.longest_ago.Goals as goal

pub serving-lane-items-requires : goal.serving-lane-items-requires
serving-lane-items-requires c = (holds c.args.d.now c.requires).few

pub is_waiting-requires : goal.is_waiting-requires
is_waiting-requires c = rw c.serving-lane-items.ensures.lanes (served_lane c.args.d.now c.requires c.loop-lane.lane-index)

pub returns-then-is_waiting-clause-lane : goal.returns-then-is_waiting-clause-lane
returns-then-is_waiting-clause-lane c =
    let waits = sym c.is_waiting.ensures ∙ c.if-is_waiting.true in
    sym (c.loop-lane.invariant ∙ ago-here c.args.d.now c.serving-lane-items.result.now c.loop-lane.lane-index c.loop-lane-test.true waits)

pub returns-then-is_waiting-clause-within : goal.returns-then-is_waiting-clause-within
returns-then-is_waiting-clause-within c = rw c.serving-lane-items.ensures.lanes (served_lane c.args.d.now c.requires c.loop-lane.lane-index)

pub loop-lane-preserved : goal.loop-lane-preserved
loop-lane-preserved c =
    let none = sym c.is_waiting.ensures ∙ c.if-is_waiting.false in
    c.loop-lane.invariant ∙ ago-later c.args.d.now c.serving-lane-items.result.now c.loop-lane.lane-index c.loop-lane-test.true none

pub returns-clause-lane : goal.returns-clause-lane
returns-clause-lane c =
    sym (c.loop-lane.invariant ∙ ago_none c.args.d.now c.serving-lane-items.result.now c.loop-lane.lane-index c.loop-lane-test.false)
