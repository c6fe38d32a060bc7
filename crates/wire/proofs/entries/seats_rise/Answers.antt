use Rattle.std.proofs.Common.{sym, arith}
use Rattle.wire.specs.WalkLaws.{rises_first, rises_next, rises_fails, rises_all}
use Rattle.wire.proofs.entries.seats_rise.Goals as goal

pub loop-i-init : goal.loop-i-init
loop-i-init c = rises_first

pub returns-then-seat_of_entry : goal.returns-then-seat_of_entry
returns-then-seat_of_entry c = sym (rises_fails c.loop-i.invariant (omega arith) (omega arith))

pub loop-i-preserved : goal.loop-i-preserved
loop-i-preserved c = rises_next c.loop-i.invariant (omega arith) (omega arith)

pub returns : goal.returns
returns c = sym (rises_all c.loop-i.invariant (omega arith))
