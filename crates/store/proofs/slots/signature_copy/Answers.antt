use Rattle.std.proofs.Common.{sym}
use Rattle.protocol.specs.Layout.{signature_length}
use Rattle.store.proofs.slots.signature_copy.Goals as goal

pub copy_from_slice-requires : goal.copy_from_slice-requires
unfolding signature_length
copy_from_slice-requires c = sym c.requires
