use Rattle.std.proofs.Common.{◌+◌, ◌^◌, ◌≤◌, arith, mul-le-mul}
use Rattle.sha256_constants.specs.RootLaws.{cube, root_lt}
use Rattle.sha256_constants.proofs.climbed.Goals as goal

pub overflow_mul-r : goal.overflow_mul-r
overflow_mul-r c =
    let next : c.loop-r.r + 1 ≤ 2 ^ 19 = omega (arith, root_lt c.loop-r.invariant c.requires.1) in
    omega (arith, mul-le-mul next next)

pub overflow_mul-r-in-loop-r : goal.overflow_mul-r-in-loop-r
overflow_mul-r-in-loop-r c =
    let next : c.loop-r.r + 1 ≤ 2 ^ 19 = omega (arith, root_lt c.loop-r.invariant c.requires.1) in
    omega (arith, mul-le-mul (mul-le-mul next next) next)

pub loop-r-preserved : goal.loop-r-preserved
loop-r-preserved c = omega (arith, cube (c.loop-r.r + 1))

pub returns : goal.returns
returns c = omega (arith, cube (c.loop-r.r + 1))
