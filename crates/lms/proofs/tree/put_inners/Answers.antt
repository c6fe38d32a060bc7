use Rattle.std.proofs.Common.{◌≡◌, refl, ap, ◌∙◌, arith}
use Rattle.octets.specs.Octets.{bytes}
use Rattle.lms.specs.TreeLaws.{inners_next}
use Rattle.lms.specs.Pieces.{inners_put}
use Rattle.lms.proofs.tree.put_inners.Goals as goal

pub loop-t-init : goal.loop-t-init
unfolding inners_put
loop-t-init c = refl

pub loop-t-preserved : goal.loop-t-preserved
loop-t-preserved c =
    let args = c.args in
    let loop = c.loop-t in
    inners_next (bytes args.id) args.tree.now loop.tree c.put_inner.new.tree loop.t loop.invariant c.put_inner.ensures

pub returns : goal.returns
returns c =
    let args = c.args in
    let all : c.loop-t.t ≡ 1023 = omega arith in
    c.loop-t.invariant ∙ ap (λ t. inners_put (bytes args.id) t args.tree.now) all
