use Rattle.std.proofs.Common.{arith}
use Rattle.sha256_constants.specs.PrimesLaws.{tried_is_prime, trial_ends, trial_goes-on, trial_done}
use Rattle.sha256_constants.proofs.prime.Goals as goal

pub loop-d-init : goal.loop-d-init
loop-d-init c = tried_is_prime _ c.requires.0 c.requires.1

pub returns-then-n-d-eq0 : goal.returns-then-n-d-eq0
returns-then-n-d-eq0 c = trial_ends _ _ (omega arith) c.loop-d.invariant c.if-n-d-eq0.true

pub loop-d-preserved : goal.loop-d-preserved
loop-d-preserved c = trial_goes-on _ _ (omega arith) c.loop-d.invariant c.if-n-d-eq0.false

pub returns : goal.returns
returns c = trial_done _ _ (omega arith) c.loop-d.invariant
