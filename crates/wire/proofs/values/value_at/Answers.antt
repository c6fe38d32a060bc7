use Rattle.std.proofs.Common.{◌≡◌, ◌+◌, ◌-◌, ◌∙◌, arith}
use Rattle.octets.specs.Octets.{part}
use Rattle.protocol.specs.Message.{read_value}
use Rattle.wire.proofs.values.value_at.Goals as goal

pub returns : goal.returns
unfolding read_value part
returns c =
    let n : c.args.at + 32 - c.args.at ≡ 32 = omega arith in
    c.copy_from_slice.ensures.after ∙ rw n
