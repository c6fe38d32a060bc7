use Rattle.wire.specs.Reading.{seat_place}
use Rattle.wire.specs.WalkLaws.{Gathered}
use Rattle.wire.proofs.entries.seat_set.Given as goal

abbrev pub invariant-loop-i : goal.invariant-loop-i
invariant-loop-i l = Gathered (seat_place l.entries) l.m l.entries.count l.mask l.i
