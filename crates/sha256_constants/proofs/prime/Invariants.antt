use Rattle.std.proofs.Common.{◌≡◌, ◌-◌}
use Rattle.fips180.specs.Rule.{prime}
use Rattle.sha256_constants.specs.PrimesLaws.{tried}
use Rattle.sha256_constants.proofs.prime.Given as goal

abbrev pub invariant-loop-d : goal.invariant-loop-d
invariant-loop-d l = tried l.n (18 - l.d) l.d ≡ prime l.n
