use Rattle.std.proofs.Common.{ℕ, ◌<◌, get_or}
use Rattle.lmots_batches.proofs.choose.Given as goal

abbrev pub invariant-loop-pick : goal.invariant-loop-pick
invariant-loop-pick l = (j : ℕ) → j < 16 → get_or l.pick-items j 0 < l.chains.n
