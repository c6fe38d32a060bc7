-- `layout::full_entries` meets its contract.
use mathlib.Core.Path.{refl}
use Rattle.protocol.specs.Layout.{full_entry_length, signature_length}
use Rattle.layout.proofs.full_entries.Statement.{statement}
use Rattle.layout.proofs.full_entries.Tie as tie

returns : tie.Need-returns
unfolding full_entry_length signature_length
returns c = refl

pub full_entries_spec : {M : Type 1} → statement M
full_entries_spec = tie.close (tie.spec returns)
