use Rattle.std.specs.Prelude.{◌≡◌}
use Rattle.probes.specs.Probes.{repeated}
use Rattle.probes.proofs.compress_times.Given as goal

abbrev pub invariant-loop-t : goal.invariant-loop-t
invariant-loop-t l = l.s ≡ repeated l.fn.h l.m l._t
