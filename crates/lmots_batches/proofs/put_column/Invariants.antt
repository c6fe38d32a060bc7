use Rattle.std.proofs.Common.{◌≡◌, ℕ, ◌+◌, ◌*◌, ◌<◌, get_or}
use Rattle.sha256_lanes.specs.Rows.{column}
use Rattle.lmots_batches.proofs.put_column.Given as goal

abbrev pub invariant-loop-r : goal.invariant-loop-r
invariant-loop-r l = record {
  put : (i : ℕ) → i < l.r → get_or l.v (16 * i + l.l) 0 ≡ get_or l.fn.y i 0;
  before : (j : ℕ) → j < l.l → column j 8 l.v ≡ column j 8 l.initial.v;
}
