use Rattle.std.proofs.Common.{ℕ, ◌-◌, ◌<◌, ◌≤◌, get_or}
use Rattle.lmots_batches.proofs.Chains.together.Given as goal

abbrev pub invariant-loop-i : goal.invariant-loop-i
invariant-loop-i l = record {
  few : l.count ≤ 64;
  within : (j : ℕ) → j < l.i-index → l.count ≤ get_or l.self.ends (get_or l.picks.chains j 0) 0 - get_or l.self.places (get_or l.picks.chains j 0) 0;
}
