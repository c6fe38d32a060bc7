use Rattle.std.proofs.Common.{◌≡◌, ℕ, ◌*◌, ◌<◌, length, get_or}
use Rattle.octets.specs.Octets.{part, bytes}
use Rattle.rfc8554.specs.Ots.{d_pblc}
use Rattle.lmots_digits.specs.Pieces.{front}
use Rattle.lmots.proofs.leaves.put_fronts.Given as goal

abbrev pub invariant-loop-l : goal.invariant-loop-l
invariant-loop-l l = record {
  long : length l.z ≡ 17760;
  fronts : (j : ℕ) → j < l.l → part (1110 * j) 22 l.z ≡ front (bytes l.id) (get_or l.fn.leaves j 0) d_pblc;
}
