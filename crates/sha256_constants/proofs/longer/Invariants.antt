use Rattle.std.proofs.Common.{◌+◌, ◌*◌, ◌-◌, ◌^◌, ◌≤◌}
use Rattle.sha256_constants.proofs.longer.Given as goal

abbrev pub invariant-loop-d : goal.invariant-loop-d
invariant-loop-d l = (l.a * l.s + l.d) ^ 3 ≤ l.m * l.s ^ 3

abbrev pub decreases-loop-d : goal.decreases-loop-d
decreases-loop-d l = l.s - l.d
