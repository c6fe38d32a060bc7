use Rattle.std.proofs.Common.{◌≡◌, ℕ, ◌*◌, ◌<◌, get_or}
use Rattle.octets.specs.Octets.{part, bytes}
use Rattle.sha256_lanes.specs.Rows.{column}
use Rattle.lmots_batches.proofs.gather.Given as goal

abbrev pub invariant-loop-l : goal.invariant-loop-l
invariant-loop-l l = (j : ℕ) → j < l.l → bytes (column j 8 l.v) ≡ part (32 * get_or l.picks.chains j 0) 32 l.z
