use Rattle.std.proofs.Common.{◌≡◌, ℕ, ◌+◌, ◌*◌, ◌<◌, length, get_or}
use Rattle.lmots_batches.proofs.column.Given as goal

abbrev pub invariant-loop-r : goal.invariant-loop-r
invariant-loop-r l = record { long : length l.y ≡ 8; read : (j : ℕ) → j < l.r → get_or l.y j 0 ≡ get_or l.v (16 * j + l.l) 0 }
