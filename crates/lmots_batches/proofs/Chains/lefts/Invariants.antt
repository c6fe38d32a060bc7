use Rattle.std.proofs.Common.{◌≡◌, ℕ, ◌-◌, ◌<◌, length, get_or}
use Rattle.lmots_batches.proofs.Chains.lefts.Given as goal

abbrev pub invariant-loop-i : goal.invariant-loop-i
invariant-loop-i l = record { long : length l.out ≡ 67; rests : (j : ℕ) → j < l.i → get_or l.out j 0 ≡ get_or l.self.ends j 0 - get_or l.self.places j 0 }
