use Rattle.std.proofs.Common.{arith}
use Rattle.quorum.specs.Quorum.{most_seats}
use Rattle.wire.specs.Reading.{seat_place}
use Rattle.wire.specs.WalkLaws.{gathered_none, gathered_next, gathered_all, below_at}
use Rattle.wire.proofs.entries.seat_set.Goals as goal

pub loop-i-init : goal.loop-i-init
loop-i-init c = gathered_none

pub with-mask-requires : goal.with-mask-requires
with-mask-requires c =
    omega (arith, below_at (seat_place c.args.entries) c.args.m.now most_seats c.args.entries.count c.loop-i.i (omega arith) c.requires.1, c.seat_of_entry.ensures.0)

pub loop-i-preserved : goal.loop-i-preserved
loop-i-preserved c = gathered_next c.loop-i.invariant (omega arith) c.seat_of_entry.ensures.0 c.with-mask.ensures

pub returns : goal.returns
returns c = gathered_all c.loop-i.invariant (omega arith)
