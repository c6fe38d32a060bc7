use Rattle.std.proofs.Common.{refl, arith}
use Rattle.rfc8554.specs.Ots.{sum}
use Rattle.lmots_digits.specs.DigitLaws.{digest_place, sum_next, checksum-shifted}
use Rattle.lmots_digits.proofs.digits.checksum.Goals as goal

pub loop-i-init : goal.loop-i-init
unfolding sum
loop-i-init c = record { bounded = omega arith; summed = refl }

pub coef-requires : goal.coef-requires
coef-requires c = omega (arith, digest_place c.args.w c.loop-i.i (omega arith))

pub loop-i-preserved : goal.loop-i-preserved
loop-i-preserved c =
    record {
      bounded = omega arith;
      summed = sum_next _ _ _ _ _ _ c.loop-i.invariant.summed c.most-top.ensures.0 c.coef.ensures.0;
    }

pub returns : goal.returns
returns c = checksum-shifted _ _ _ _ _ (omega arith) c.loop-i.invariant.summed c.loop-i.invariant.bounded c.left_shift.ensures.0
