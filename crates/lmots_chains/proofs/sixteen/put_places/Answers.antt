use Rattle.std.proofs.Common.{◌≡◌, refl, arith}
use Rattle.sha256_lanes.specs.RowsLaws.{two_none, two_next}
use Rattle.lmots_chains.proofs.sixteen.put_places.Goals as goal

pub loop-l-init : goal.loop-l-init
loop-l-init c = two_none 80 208 16 _ _ _

pub overflow_add-w : goal.overflow_add-w
overflow_add-w c = omega (arith, c.args.places.now.small c.loop-l.l (omega arith))

pub loop-l-preserved : goal.loop-l-preserved
loop-l-preserved c =
    two_next 80 208 16 _ _ c.loop-l.l _ c.loop-l.w _ _ _ _ (omega arith) (omega arith) (omega arith) (omega arith) (omega arith) refl refl
    c.loop-l.invariant

pub returns : goal.returns
returns c =
    let all : c.loop-l.l ≡ 16 = omega arith in
    rw all at c.loop-l.invariant
