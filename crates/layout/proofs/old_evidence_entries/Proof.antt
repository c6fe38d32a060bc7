-- `layout::old_evidence_entries` meets its contract.
use mathlib.Core.Path.{refl}
use Rattle.protocol.specs.Layout.{old_evidence_entry_length, signature_length}
use Rattle.layout.proofs.old_evidence_entries.Statement.{statement}
use Rattle.layout.proofs.old_evidence_entries.Tie as tie

returns : tie.Need-returns
unfolding old_evidence_entry_length signature_length
returns c = refl

pub old_evidence_entries_spec : {M : Type 1} → statement M
old_evidence_entries_spec = tie.close (tie.spec returns)
