use Rattle.std.proofs.Common.{◌≡◌, ◌*◌, ◌≤◌}
use Rattle.rfc8554.specs.Ots as Ots
use Rattle.lmots_digits.specs.Width.{bits_of}
use Rattle.lmots_digits.proofs.digits.checksum.Given as goal

abbrev pub invariant-loop-i : goal.invariant-loop-i
invariant-loop-i l = record { bounded : l.sum ≤ 255 * l.i; summed : l.sum ≡ Ots.sum (bits_of l.w) l.digest l.i }
