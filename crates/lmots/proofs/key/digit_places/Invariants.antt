use Rattle.std.proofs.Common.{◌≡◌, ℕ, ◌-◌, ◌^◌, ◌<◌, ◌≤◌, length, get_or}
use Rattle.rfc8554.specs.Ots as Ots
use Rattle.lmots_digits.specs.Width.{bits_of}
use Rattle.lmots.proofs.key.digit_places.Given as goal

abbrev pub invariant-loop-i : goal.invariant-loop-i
invariant-loop-i l = record {
  long : length l.out ≡ 67;
  digits : (j : ℕ) → j < l.i → get_or l.out j 0 ≡ Ots.coef (bits_of l.w) l.digits j;
  small : (j : ℕ) → j < 67 → get_or l.out j 0 ≤ 2 ^ bits_of l.w - 1;
}
