use Rattle.std.proofs.Common.{◌∙◌}
use Rattle.store.specs.StoreLaws.{slot-inside, slot_read}
use Rattle.store.proofs.slots.slot_copy.Goals as goal

pub signature_at-requires : goal.signature_at-requires
signature_at-requires c = slot-inside c.args.n c.args.bank c.args.seat c.requires.1 c.args.store.now c.requires.2 c.slot_at.result c.slot_at.ensures.0

pub signature_copy-requires : goal.signature_copy-requires
signature_copy-requires c =
    (slot_read c.args.n c.args.bank c.args.seat c.requires.1 c.args.store.now c.requires.2 c.slot_at.result c.slot_at.ensures.0 c.signature_at.result.now c.signature_at.ensures).1

pub returns : goal.returns
returns c =
    c.signature_copy.ensures
    ∙ (slot_read c.args.n c.args.bank c.args.seat c.requires.1 c.args.store.now c.requires.2 c.slot_at.result c.slot_at.ensures.0 c.signature_at.result.now c.signature_at.ensures).0
