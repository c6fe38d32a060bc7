use Rattle.collecting.proofs.kept.collect_kept.Given as goal
use Rattle.collecting.specs.KeepingLaws.{Gathering}

abbrev pub invariant-loop-seat : goal.invariant-loop-seat
invariant-loop-seat l = Gathering l.initial.u l.initial.store l.seat l.u l.store
