use Rattle.std.proofs.Common.{◌∙◌}
use Rattle.layout.specs.Places.{bank_of}
use Rattle.store.proofs.held.hold_seat.Goals as goal

pub returns : goal.returns
unfolding bank_of
returns c = c.fill.ensures ∙ rw (c.signature_copy-signature.ensures, c.signature_of.ensures.0, c.bytes_of.ensures)
