use Rattle.std.proofs.Common.{◌≡◌, ◌/◌, ◌^◌, length}
use Rattle.octets.specs.Octets.{bytes}
use Rattle.rfc8554.specs.Verify.{climbed}
use Rattle.lmots_digits.specs.Width.{bits_of}
use Rattle.lms.proofs.verify.climb.Given as goal

abbrev pub invariant-loop-i : goal.invariant-loop-i
invariant-loop-i l = record {
  long : length l.tmp ≡ 32;
  node : l.x ≡ l.r / 2 ^ l.i;
  value : l.tmp ≡ climbed (bytes l.id) (bits_of l.fn.w) l.r l.signature l.initial.tmp l.i;
}
