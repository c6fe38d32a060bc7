-- `layout::submit_length` meets its contract.
use mathlib.Core.Path.{refl}
use Rattle.protocol.specs.Layout.{submit_length, signature_length}
use Rattle.layout.proofs.submit_length.Statement.{statement}
use Rattle.layout.proofs.submit_length.Tie as tie

returns : tie.Need-returns
unfolding submit_length signature_length
returns c = refl

pub submit_length_spec : {M : Type 1} → statement M
submit_length_spec = tie.close (tie.spec returns)
