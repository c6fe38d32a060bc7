use Rattle.std.proofs.Common.{◌≡◌, ◌*◌, ◌^◌, ◌≤◌, length}
use Rattle.sha256_constants.specs.PrimesLaws.{Filled}
use Rattle.sha256_constants.proofs.round_constants.Given as goal

abbrev pub invariant-loop-n : goal.invariant-loop-n
invariant-loop-n l = record { long : length l.words ≡ 64; filled : Filled l.n l.count l.words; root_below : l.root4 ^ 3 ≤ l.n * 2 ^ 12 }
