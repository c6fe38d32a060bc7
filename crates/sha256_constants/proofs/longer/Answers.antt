use Rattle.std.proofs.Common.{arith}
use Rattle.sha256_constants.specs.RootLaws.{first_below, digit_lt, next_below, last_root, longer_sizes}
use Rattle.sha256_constants.proofs.longer.Goals as goal

pub overflow_mul-rest : goal.overflow_mul-rest
overflow_mul-rest c = omega (arith, longer_sizes c.requires)

pub overflow_mul-rest-2 : goal.overflow_mul-rest-2
overflow_mul-rest-2 c = omega (arith, longer_sizes c.requires)

pub overflow_sub-rest : goal.overflow_sub-rest
overflow_sub-rest c = omega (arith, longer_sizes c.requires)

pub overflow_mul-d-2 : goal.overflow_mul-d-2
overflow_mul-d-2 c = omega (arith, longer_sizes c.requires)

pub overflow_mul-d-3 : goal.overflow_mul-d-3
overflow_mul-d-3 c = omega (arith, longer_sizes c.requires)

pub overflow_mul-d-4 : goal.overflow_mul-d-4
overflow_mul-d-4 c = omega (arith, longer_sizes c.requires)

pub overflow_add-d : goal.overflow_add-d
overflow_add-d c = omega (arith, longer_sizes c.requires)

pub overflow_add-d-2 : goal.overflow_add-d-2
overflow_add-d-2 c = omega (arith, longer_sizes c.requires)

pub overflow_mul-result : goal.overflow_mul-result
overflow_mul-result c = omega (arith, longer_sizes c.requires)

pub overflow_add-result : goal.overflow_add-result
overflow_add-result c = omega (arith, longer_sizes c.requires, digit_lt c.requires.0 c.requires.2 c.loop-d.invariant)

pub loop-d-init : goal.loop-d-init
loop-d-init c = first_below c.requires.0 c.args.s

pub fits-requires : goal.fits-requires
fits-requires c = omega (arith, longer_sizes c.requires, digit_lt c.requires.0 c.requires.2 c.loop-d.invariant)

pub loop-d-preserved : goal.loop-d-preserved
loop-d-preserved c = next_below c.requires.0 _ _ c.fits.ensures c.loop-d-test.true

pub returns : goal.returns
returns c = last_root c.requires.0 _ _ c.fits.ensures c.loop-d-test.false c.loop-d.invariant
