use Rattle.std.proofs.Common.{◌≡◌, ℕ, ◌<◌, length}
use Rattle.lmots_batches.specs.Batches.{Scattered}
use Rattle.lmots_batches.proofs.scatter.Given as goal

abbrev pub invariant-loop-l : goal.invariant-loop-l
invariant-loop-l l = record {
  long : length l.next ≡ 67;
  values : length l.z ≡ 2144;
  scattered : (i : ℕ) → i < 67 → Scattered l.l l.picks.chains l.places l.count l.v l.initial.z l.next l.z i;
}
