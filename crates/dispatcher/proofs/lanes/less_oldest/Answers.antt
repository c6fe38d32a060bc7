use Rattle.std.proofs.Common.{arith}
use Rattle.dispatch.specs.Dispatcher.{last_lane, count, head, serving}
use Rattle.dispatch.specs.Turns.{less_oldest}
use Rattle.dispatch_claims.specs.ListLaws.{room_to_serve}
use Rattle.dispatch_claims.specs.CallsLaws.{holds}
use Rattle.dispatcher.specs.TurnsLaws.{waits_some}
use Rattle.dispatcher.proofs.lanes.less_oldest.Goals as goal

pub serve_last-next-requires-clause-few : goal.serve_last-next-requires-clause-few
serve_last-next-requires-clause-few c = (holds c.args.d.now c.requires.2).few

pub serve_last-next-requires-clause-room : goal.serve_last-next-requires-clause-room
serve_last-next-requires-clause-room c =
    let held = holds c.args.d.now c.requires.2 in
    omega (arith, room_to_serve last_lane c.args.lane (serving c.args.d.now) (omega (arith, c.requires.0)) held.once held.within)

pub overflow_sub-next : goal.overflow_sub-next
unfolding count
overflow_sub-next c = rw c.serve_last-next.ensures (waits_some c.args.d.now c.args.lane c.requires.1)

pub returns : goal.returns
unfolding less_oldest count head
returns c = rw c.serve_last-next.ensures
