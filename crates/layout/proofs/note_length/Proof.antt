-- `layout::note_length` meets its contract.
use mathlib.Core.Path.{refl}
use Rattle.protocol.specs.Layout.{note_length}
use Rattle.layout.proofs.note_length.Statement.{statement}
use Rattle.layout.proofs.note_length.Tie as tie

returns : tie.Need-returns
unfolding note_length
returns c = refl

pub note_length_spec : {M : Type 1} → statement M
note_length_spec = tie.close (tie.spec returns)
