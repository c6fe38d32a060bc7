use Rattle.std.proofs.Common.{refl}
use Rattle.refusal.specs.AnswersLaws.{handed_on, number-nonzero}
use Rattle.wire.specs.KindLaws.{kind-told}
use Rattle.validate.specs.CallsLaws.{pack-formed}
use Rattle.evidence.specs.PassedLaws.{call, sized}
use Rattle.evidence.specs.ReturnsLaws.{outside-refused, pack-refused, accepted}
use Rattle.evidence.proofs.check_evidence.Goals as goal

pub returns-in_err-fleet : goal.returns-in_err-fleet
returns-in_err-fleet c =
    let e = c.in_err-fleet.field-0.0 in
    rw (handed_on c.from_residual.result e c.from_residual.ensures.1)
    (outside-refused (call c.args.n c.args.round c.args.keys.now) _ c.in_err-fleet.ensures.number (number-nonzero e))

pub evidence_refusal-requires : goal.evidence_refusal-requires
evidence_refusal-requires c = rw c.in_ok-fleet.ensures.made.0 (kind-told _ _ c.classify-kind.ensures)

pub returns-in_err-evidence_refusal : goal.returns-in_err-evidence_refusal
returns-in_err-evidence_refusal c =
    let e = c.in_err-evidence_refusal.field-0.0 in
    let made = c.in_ok-fleet.ensures.made in
    rw (handed_on c.from_residual-in_err-evidence_refusal.result e c.from_residual-in_err-evidence_refusal.ensures.1)
    (pack-refused (call c.args.n c.args.round c.args.keys.now) c.in_ok-fleet.ensures.number _ (rw (made.0, made.1, made.2) at c.in_err-evidence_refusal.ensures) (number-nonzero e))

pub entry_set-requires : goal.entry_set-requires
entry_set-requires c =
    let made = c.in_ok-fleet.ensures.made in
    let n = sized (call c.args.n c.args.round c.args.keys.now) c.in_ok-fleet.ensures.number in
    (n.0, n.1, kind-told _ _ c.classify-kind.ensures, (pack-formed _ _ _ _ _ 0 (rw (made.0, made.1, made.2) at c.in_ok-evidence_refusal.ensures) refl).known)

pub returns : goal.returns
returns c =
    let made = c.in_ok-fleet.ensures.made in
    accepted (call c.args.n c.args.round c.args.keys.now) c.in_ok-fleet.ensures.number _ (rw (made.0, made.1, made.2) at c.in_ok-evidence_refusal.ensures) refl c.entry_set.ensures
