use Rattle.std.proofs.Common.{◌≡◌}
use Rattle.fips180.specs.Fips.{hashed}
use Rattle.sha256.proofs.hash.absorb.Given as goal

abbrev pub invariant-loop-t : goal.invariant-loop-t
invariant-loop-t l = l.s ≡ hashed l.initial.s l.m l.t
