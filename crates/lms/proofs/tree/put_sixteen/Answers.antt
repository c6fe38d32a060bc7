use Rattle.std.proofs.Common.{arith}
use Rattle.octets.specs.Octets.{bytes}
use Rattle.octets.specs.Strings.{joined}
use Rattle.octets.specs.WriteLaws.{patch_none}
use Rattle.protocol.specs.Layout.{tree_length}
use Rattle.lms.specs.TreeLaws.{sixteen_next, sixteen_done}
use Rattle.lms.proofs.tree.put_sixteen.Goals as goal

pub loop-l-init : goal.loop-l-init
unfolding joined
loop-l-init c = patch_none _ _

pub loop-l-preserved : goal.loop-l-preserved
unfolding tree_length
loop-l-preserved c =
    let args = c.args in
    let loop = c.loop-l in
    sixteen_next (bytes args.id) c.ots_keys-keys.result args.tree.now loop.tree c.bytes_at.result.now c.put_leaf.new.tree args.q loop.l (omega arith)
    loop.invariant c.bytes_at.ensures c.put_leaf.ensures

pub returns : goal.returns
returns c =
    let args = c.args in
    let loop = c.loop-l in
    sixteen_done (bytes args.id) (bytes args.seed) c.ots_keys-keys.result args.tree.now loop.tree args.q loop.l (omega arith) c.ots_keys-keys.ensures loop.invariant
