use Rattle.std.proofs.Common.{◌≡◌, ◌-◌, ◌*◌, length}
use Rattle.sha256_lanes.specs.Rows.{Unchanged}
use Rattle.sha256_lanes.specs.RowsLaws.{Part}
use Rattle.sha256_lanes.proofs.round.Given as goal

abbrev pub invariant-loop-l : goal.invariant-loop-l
invariant-loop-l l = record { long : length l.s ≡ 3264; unchanged : Unchanged (1024 - 16 * l.t) l.initial.s l.s; part : Part l.k l.t l.l l.w l.initial.s l.s }
