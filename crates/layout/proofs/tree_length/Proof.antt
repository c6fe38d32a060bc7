-- `layout::tree_length` meets its contract.
use mathlib.Core.Path.{refl}
use Rattle.protocol.specs.Layout.{tree_length}
use Rattle.layout.proofs.tree_length.Statement.{statement}
use Rattle.layout.proofs.tree_length.Tie as tie

returns : tie.Need-returns
unfolding tree_length
returns c = refl

pub tree_length_spec : {M : Type 1} → statement M
tree_length_spec = tie.close (tie.spec returns)
