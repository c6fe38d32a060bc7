use Rattle.std.proofs.Common.{◌≡◌, ◌+◌, ◌*◌}
use Rattle.fips180.specs.Fips.{rounds}
use Rattle.sha256_block.proofs.rounds.Given as goal

abbrev pub invariant-loop-i : goal.invariant-loop-i
invariant-loop-i l = l.s ≡ rounds l.w l.fn.h (8 * l.i)

abbrev pub invariant-loop-j : goal.invariant-loop-j
invariant-loop-j l = l.s ≡ rounds l.w l.fn.h (8 * l.i + l.j)
