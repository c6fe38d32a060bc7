use Rattle.std.proofs.Common.{◌≡◌, ℕ, ◌<◌}
use Rattle.sha256_lanes.specs.Rows.{column}
use Rattle.lmots.proofs.leaves.put_all.Given as goal

abbrev pub invariant-loop-l : goal.invariant-loop-l
invariant-loop-l l = (j : ℕ) → j < l.l → column j 8 l.v ≡ l.y
