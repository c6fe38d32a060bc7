use Rattle.wire.specs.Reading.{seat_place}
use Rattle.wire.specs.WalkLaws.{Rises}
use Rattle.wire.proofs.entries.seats_rise.Given as goal

abbrev pub invariant-loop-i : goal.invariant-loop-i
invariant-loop-i l = Rises (seat_place l.entries) l.m l.entries.count l.i
