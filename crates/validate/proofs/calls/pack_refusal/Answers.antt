use Rattle.std.proofs.Common.{◌∙◌}
use Rattle.refusal.specs.AnswersLaws.{number-nonzero, number-handed_on}
use Rattle.refusal.specs.RefusalLaws.{rows}
use Rattle.validate.specs.CallsLaws.{pack_first, pack-last, evidence_right}
use Rattle.validate.proofs.calls.pack_refusal.Goals as goal

pub returns-in_err-message_refusal : goal.returns-in_err-message_refusal
returns-in_err-message_refusal c =
    let e = c.in_err-message_refusal.field-0.0 in
    number-handed_on c.from_residual.result e c.from_residual.ensures.1 ∙ pack_first _ _ _ _ _ _ c.in_err-message_refusal.ensures (number-nonzero e)

pub not_lower_first-requires : goal.not_lower_first-requires
not_lower_first-requires c = evidence_right _ _ _ _ _ c.requires.1 c.in_ok-message_refusal.ensures

pub returns-then-not_lower_first : goal.returns-then-not_lower_first
returns-then-not_lower_first c = pack-last _ _ _ _ _ c.in_ok-message_refusal.ensures _ (search rows)

pub returns : goal.returns
returns c = pack-last _ _ _ _ _ c.in_ok-message_refusal.ensures _ (search rows)
