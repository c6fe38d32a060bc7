-- `layout::evidence_entries` meets its contract.
use mathlib.Core.Path.{refl}
use Rattle.protocol.specs.Layout.{evidence_entry_length, signature_length}
use Rattle.layout.proofs.evidence_entries.Statement.{statement}
use Rattle.layout.proofs.evidence_entries.Tie as tie

returns : tie.Need-returns
unfolding evidence_entry_length signature_length
returns c = refl

pub evidence_entries_spec : {M : Type 1} → statement M
evidence_entries_spec = tie.close (tie.spec returns)
