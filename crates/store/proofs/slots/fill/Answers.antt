use Rattle.std.proofs.Common.{ap, ◌∙◌, arith}
use Rattle.octets.specs.Octets.{patch}
use Rattle.protocol.specs.Layout.{signature_length}
use Rattle.protocol.specs.Certificate.{fill}
use Rattle.store.specs.StoreLaws.{part-patched, slot-signature}
use Rattle.store.proofs.slots.fill.Goals as goal

pub slice_bounds-copy_from_slice-end : goal.slice_bounds-copy_from_slice-end
unfolding signature_length
slice_bounds-copy_from_slice-end c = omega (arith, slot-signature c.args.bank)

pub copy_from_slice-requires : goal.copy_from_slice-requires
unfolding signature_length
copy_from_slice-requires c = omega (arith, slot-signature c.args.bank)

pub returns : goal.returns
unfolding fill signature_length
returns c =
    part-patched c.slot_at-at.result _ c.args.signature.now c.args.store.now _ (omega arith) c.copy_from_slice.ensures.after
    ∙ ap (λ a. patch a c.args.signature.now c.args.store.now) c.slot_at-at.ensures.0
