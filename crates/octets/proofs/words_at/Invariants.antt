use Rattle.std.proofs.Common.{◌≡◌, ◌*◌, length, take}
use Rattle.octets.specs.Octets.{part, words}
use Rattle.octets.proofs.words_at.Given as goal

abbrev pub invariant-loop-t : goal.invariant-loop-t
invariant-loop-t g l = record { long : length l.w ≡ g.row.N; filled : take l.t l.w ≡ words l.t (part l.at (4 * g.row.N) l.m) }
