use Rattle.std.proofs.Common.{◌≡◌, ℕ, ◌+◌, ◌<◌, length, get_or}
use Rattle.lmots.proofs.leaves.numbers.Given as goal

abbrev pub invariant-loop-l : goal.invariant-loop-l
invariant-loop-l l = record { long : length l.out ≡ 16; from_q : (j : ℕ) → j < l.l → get_or l.out j 0 ≡ l.q + j }
