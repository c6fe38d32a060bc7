use Rattle.std.proofs.Common.{◌≡◌, sym, ap, ◌∙◌, ◌*◌, length, div-one, arith}
use Rattle.octets.specs.OctetsLaws.{length_part}
use Rattle.octets.specs.Strings.{joined}
use Rattle.octets.specs.Octets.{patch}
use Rattle.octets.specs.WriteLaws.{patch_none}
use Rattle.protocol.specs.Layout.{tree_length}
use Rattle.rfc8554.specs.Tree.{path}
use Rattle.lms.specs.SignerLaws.{way_within, path_next}
use Rattle.lms.specs.NodeLaws.{half_next}
use Rattle.lms.proofs.signer.write_path.Goals as goal

pub loop-i-init : goal.loop-i-init
unfolding joined
loop-i-init c = record { node = sym (div-one _); written = patch_none _ _ }

pub sibling-requires : goal.sibling-requires
sibling-requires c =
    way_within c.args.tree.now c.args.r c.requires.0 c.requires.1 c.requires.2 c.loop-i.x c.loop-i.i c.loop-i.invariant.node (omega arith)

pub bytes_at-beside-requires : goal.bytes_at-beside-requires
unfolding tree_length
bytes_at-beside-requires c = omega arith

pub copy-requires : goal.copy-requires
unfolding tree_length
copy-requires c =
    let s = c.sibling.result in
    let long : length c.bytes_at-beside.result.now ≡ 32 = rw c.bytes_at-beside.ensures (length_part (32 * s) 32 c.args.tree.now (omega arith)) in
    omega arith

pub loop-i-preserved : goal.loop-i-preserved
loop-i-preserved c =
    let args = c.args in
    let loop = c.loop-i in
    record {
      node = half_next loop.x args.r loop.i loop.invariant.node;
      written =
          path_next args.tree.now args.r c.requires.0 c.requires.1 c.requires.2 args.out.now loop.out c.bytes_at-beside.result.now c.copy.new.out args.at
          loop.x loop.i c.sibling.result loop.invariant.node (omega arith) c.sibling.ensures.0 c.bytes_at-beside.ensures (omega arith) loop.invariant.written
          c.copy.ensures;
    }

pub returns : goal.returns
returns c =
    let args = c.args in
    let all : c.loop-i.i ≡ 10 = omega arith in
    c.loop-i.invariant.written ∙ ap (λ i. patch args.at (joined (path args.tree.now args.r) i) args.out.now) all
