use Rattle.store.specs.SourcesLaws.{entries-inside, slots-inside, entries-signature, slots-signature}
use Rattle.store.proofs.sources.signature_of.Goals as goal

pub signature_at-requires : goal.signature_at-requires
signature_at-requires c =
    let args = c.args in
    entries-inside args.n args.source args.bytes.now c.requires.3 args.seat c.requires.1 c.entry_place.result c.requires.2 c.in-Entries.is c.entry_place.ensures

pub signature_at-requires-in-Slots : goal.signature_at-requires-in-Slots
signature_at-requires-in-Slots c =
    let args = c.args in
    slots-inside args.n args.source args.bytes.now c.requires.3 args.seat c.requires.1 c.slot_at.result _ c.in-Slots.is c.slot_at.ensures.0

pub returns-in-Entries : goal.returns-in-Entries
returns-in-Entries c =
    let args = c.args in
    entries-signature args.n args.source args.bytes.now c.requires.3 args.seat c.requires.1 c.entry_place.result c.requires.2 c.in-Entries.is c.entry_place.ensures
    c.signature_at.result.now c.signature_at.ensures

pub returns-in-Slots : goal.returns-in-Slots
returns-in-Slots c =
    let args = c.args in
    slots-signature args.n args.source args.bytes.now c.requires.3 args.seat c.requires.1 c.slot_at.result _ c.in-Slots.is c.slot_at.ensures.0
    c.signature_at-in-Slots.result.now c.signature_at-in-Slots.ensures
