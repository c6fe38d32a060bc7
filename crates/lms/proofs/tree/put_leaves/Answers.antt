use Rattle.std.proofs.Common.{◌≡◌, ℕ, ◌*◌, ap, ◌∙◌, arith}
use Rattle.octets.specs.Octets.{patch, bytes}
use Rattle.octets.specs.Strings.{joined}
use Rattle.octets.specs.WriteLaws.{patch_none}
use Rattle.protocol.specs.Layout.{tree_length}
use Rattle.rfc8554.specs.Tree.{nodes}
use Rattle.lms.specs.TreeLaws.{leaves_next}
use Rattle.lms.proofs.tree.put_leaves.Goals as goal

pub loop-n-init : goal.loop-n-init
unfolding nodes joined
loop-n-init c = patch_none _ _

pub loop-n-preserved : goal.loop-n-preserved
unfolding tree_length
loop-n-preserved c =
    let args = c.args in
    let loop = c.loop-n in
    leaves_next (bytes args.id) (bytes args.seed) args.tree.now loop.tree c.put_sixteen.new.tree loop.n (omega arith) loop.invariant c.put_sixteen.ensures

pub returns : goal.returns
returns c =
    let args = c.args in
    let all : c.loop-n.n ≡ 64 = omega arith in
    c.loop-n.invariant ∙ ap (λ (n : ℕ). patch (32 * 1024) (nodes 10 8 (bytes args.id) (bytes args.seed) 1024 (16 * n)) args.tree.now) all
