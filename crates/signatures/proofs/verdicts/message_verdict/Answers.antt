use Rattle.std.proofs.Common.{⊎_elim, rules}
use Rattle.signatures.specs.EntriesLaws.{submit-taken, full-taken, old-evidence-taken, evidence-taken, notice-row, garbled_row}
use Rattle.signatures.proofs.verdicts.message_verdict.Goals as goal

pub submit_verdict-requires : goal.submit_verdict-requires
submit_verdict-requires c = search (rules, submit-taken)

pub full_verdict-requires : goal.full_verdict-requires
full_verdict-requires c = search (rules, full-taken)

pub evidence_verdict-requires : goal.evidence_verdict-requires
evidence_verdict-requires c =
    let pre = c.requires in
    ⊎_elim (λ g. old-evidence-taken _ _ _ pre.0 pre.1 g) (λ g. evidence-taken _ _ _ pre.0 pre.1 g) c.in-OldEvidence.is

pub returns-in-Notice : goal.returns-in-Notice
returns-in-Notice c = ⊎_elim (λ g. notice-row _ _ _ _ c.requires.0 g) (λ g. garbled_row _ _ _ _ c.requires.0 g) c.in-Notice.is
