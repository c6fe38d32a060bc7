use Rattle.std.proofs.Common.{◌≡◌, ◌∙◌, length, arith}
use Rattle.octets.specs.OctetsLaws.{patch-paste}
use Rattle.probes.proofs.copy_bytes.Goals as goal

pub returns : goal.returns
returns c =
    let all : c.loop-i.i ≡ length c.args.m.now = omega arith in
    c.loop-i.invariant ∙ rw all (patch-paste 0 c.args.m.now c.args.out.now)
