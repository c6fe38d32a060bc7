use Rattle.std.proofs.Common.{◌≡◌, ◌+◌, ◌-◌, arith}
use Rattle.octets.specs.Octets.{part}
use Rattle.protocol.specs.Layout.{signature_length}
use Rattle.protocol.specs.Message.{read_signature}
use Rattle.store.proofs.slots.signature_at.Goals as goal

pub slice_bounds-result-end : goal.slice_bounds-result-end
unfolding signature_length
slice_bounds-result-end c = omega arith

pub returns : goal.returns
unfolding read_signature part signature_length
returns c =
    let n : c.args.at + signature_length - c.args.at ≡ signature_length = omega arith in
    rw n
