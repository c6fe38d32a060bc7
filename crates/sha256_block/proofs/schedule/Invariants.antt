use Rattle.std.proofs.Common.{◌≡◌, ◌-◌, length, take}
use Rattle.fips180.specs.Fips.{schedule}
use Rattle.sha256_block.proofs.schedule.Given as goal

abbrev pub invariant-loop-t : goal.invariant-loop-t
invariant-loop-t l = record { long : length l.w ≡ 64; filled : take l.t l.w ≡ schedule (take 16 l.initial.w) (l.t - 16) }
