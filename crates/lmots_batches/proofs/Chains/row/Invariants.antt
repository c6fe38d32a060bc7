use Rattle.std.proofs.Common.{◌≡◌, ℕ, ◌+◌, ◌*◌, ◌<◌, length, get_or}
use Rattle.lmots_batches.proofs.Chains.row.Given as goal

abbrev pub invariant-loop-l : goal.invariant-loop-l
invariant-loop-l l = record {
  long : length l.out ≡ 16;
  placed : (j : ℕ) → j < l.l → get_or l.out j 0 ≡ get_or l.picks.chains j 0 * 65536 + get_or l.self.places (get_or l.picks.chains j 0) 0 * 256;
}
