use Rattle.std.proofs.Common.{◌∙◌}
use Rattle.refusal.specs.AnswersLaws.{number-nonzero, number-handed_on}
use Rattle.protocol.specs.EntriesLaws.{passed_none, passed_next, passed_all}
use Rattle.signatures.specs.EntriesLaws.{accepted, signature-bad, signatures-good, pair-found, pairs-signed}
use Rattle.signatures.proofs.verdicts.evidence_verdict.Goals as goal

pub loop-t-init : goal.loop-t-init
loop-t-init c = passed_none

pub pair_verdict-requires : goal.pair_verdict-requires
pair_verdict-requires c = pair-found _ _ c.requires c.loop-t.t (rw c.evidence_entries-entries.ensures.0 at c.loop-t-test.true) _ c.pair_at.ensures

pub returns-in_err-pair_verdict : goal.returns-in_err-pair_verdict
returns-in_err-pair_verdict c =
    let e = c.in_err-pair_verdict.field-0.0 in
    number-handed_on c.from_residual.result e c.from_residual.ensures.1
    ∙ signature-bad _ _ _ _ (pairs-signed _ _ c.requires _) c.loop-t.t (rw c.evidence_entries-entries.ensures.0 at c.loop-t-test.true) _ (rw c.pair_at.ensures at c.in_err-pair_verdict.ensures) (number-nonzero e)

pub loop-t-preserved : goal.loop-t-preserved
loop-t-preserved c =
    passed_next c.loop-t.invariant (rw c.evidence_entries-entries.ensures.0 at c.loop-t-test.true) (accepted _ (rw c.pair_at.ensures at c.in_ok-pair_verdict.ensures))

pub returns : goal.returns
returns c = signatures-good _ _ _ _ (pairs-signed _ _ c.requires _) (passed_all c.loop-t.invariant (rw c.evidence_entries-entries.ensures.0 at c.loop-t-test.false))
