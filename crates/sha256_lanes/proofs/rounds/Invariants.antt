use Rattle.std.proofs.Common.{◌-◌, ◌*◌}
use Rattle.sha256_lanes.specs.Rows.{Unchanged, Rounded}
use Rattle.sha256_lanes.proofs.rounds.Given as goal

abbrev pub invariant-loop-t : goal.invariant-loop-t
invariant-loop-t l = record { unchanged : Unchanged (1024 - 16 * l.from) l.initial.s l.s; rounded : Rounded l.w l.from l.t l.initial.s l.s }
