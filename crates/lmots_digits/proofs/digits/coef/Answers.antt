use Rattle.std.proofs.Common.{arith, rules}
use Rattle.lmots_digits.specs.DigitLaws.{digit-eight, digit-high, digit_low}
use Rattle.lmots_digits.proofs.digits.coef.Goals as goal

pub returns-in-Eight : goal.returns-in-Eight
returns-in-Eight c = rw c.in-Eight.is (digit-eight _ _ _ (search rules) (omega arith))

pub returns-then-i-eq0 : goal.returns-then-i-eq0
returns-then-i-eq0 c = rw c.in-Four.is (digit-high _ _ _ (search rules) (omega arith) c.if-i-eq0.true)

pub returns-else-i-eq0 : goal.returns-else-i-eq0
returns-else-i-eq0 c = rw c.in-Four.is (digit_low _ _ _ (search rules) (omega (arith, c.if-i-eq0.false)))
