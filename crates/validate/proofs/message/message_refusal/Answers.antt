use Rattle.std.proofs.Common.{refl, ◌∙◌}
use Rattle.refusal.specs.AnswersLaws.{number-nonzero, number-handed_on}
use Rattle.forms.specs.MessagesLaws.{form-passed, form-refused, form-signed}
use Rattle.validate.proofs.message.message_refusal.Goals as goal

pub returns-in_err-form_refusal : goal.returns-in_err-form_refusal
returns-in_err-form_refusal c =
    let e = c.in_err-form_refusal.field-0.0 in
    number-handed_on c.from_residual.result e c.from_residual.ensures.1 ∙ form-refused _ _ _ _ _ c.in_err-form_refusal.ensures _ (number-nonzero e)

pub message_verdict-requires : goal.message_verdict-requires
message_verdict-requires c = (c.requires, (form-passed _ _ _ _ _ c.in_ok-form_refusal.ensures refl).known)

pub returns : goal.returns
returns c = form-signed _ _ _ _ _ c.in_ok-form_refusal.ensures _ refl _ c.message_verdict.ensures
