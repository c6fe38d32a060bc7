use Rattle.std.proofs.Common.{ℕ, arith, rules}
use Rattle.std.proofs.lemmas.List.{get_or-replicate}
use Rattle.lmots_digits.specs.DigitLaws.{chain-place}
use Rattle.lmots.proofs.key.digit_places.Goals as goal

pub loop-i-init : goal.loop-i-init
loop-i-init c = record { long = search rules; digits = λ j h. absurd (omega arith); small = λ j h. omega (arith, get_or-replicate {A = ℕ} 67 j 0 0 h) }

pub coef-requires : goal.coef-requires
coef-requires c = omega (arith, chain-place c.args.w c.loop-i.i (omega arith))
