-- `layout::signature_length` meets its contract.
use mathlib.Core.Path.{refl}
use Rattle.protocol.specs.Layout.{signature_length}
use Rattle.layout.proofs.signature_length.Statement.{statement}
use Rattle.layout.proofs.signature_length.Tie as tie

returns : tie.Need-returns
unfolding signature_length
returns c = refl

pub signature_length_spec : {M : Type 1} → statement M
signature_length_spec = tie.close (tie.spec returns)
