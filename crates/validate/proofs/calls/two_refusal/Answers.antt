use Rattle.std.proofs.Common.{◌∙◌}
use Rattle.refusal.specs.AnswersLaws.{number-nonzero, number-handed_on}
use Rattle.refusal.specs.RefusalLaws.{rows}
use Rattle.validate.specs.CallsLaws.{certificate_right, two_first, two-second, two-last}
use Rattle.validate.proofs.calls.two_refusal.Goals as goal

pub returns-in_err-certificate_refusal : goal.returns-in_err-certificate_refusal
returns-in_err-certificate_refusal c =
    let e = c.in_err-certificate_refusal.field-0.0 in
    number-handed_on c.from_residual.result e c.from_residual.ensures.1 ∙ two_first _ _ _ _ _ _ c.in_err-certificate_refusal.ensures (number-nonzero e)

pub returns-in_err-certificate_refusal-2 : goal.returns-in_err-certificate_refusal-2
returns-in_err-certificate_refusal-2 c =
    let e = c.in_err-certificate_refusal-2.field-0.0 in
    number-handed_on c.from_residual-in_err-certificate_refusal-2.result e c.from_residual-in_err-certificate_refusal-2.ensures.1
    ∙ two-second _ _ _ _ _ c.in_ok-certificate_refusal.ensures _ c.in_err-certificate_refusal-2.ensures (number-nonzero e)

pub equal_values-requires : goal.equal_values-requires
equal_values-requires c = (certificate_right _ _ _ _ c.in_ok-certificate_refusal.ensures, certificate_right _ _ _ _ c.in_ok-certificate_refusal-2.ensures)

pub returns-then-equal_values : goal.returns-then-equal_values
returns-then-equal_values c = two-last _ _ _ _ _ c.in_ok-certificate_refusal.ensures c.in_ok-certificate_refusal-2.ensures _ (search rows)

pub returns : goal.returns
returns c = two-last _ _ _ _ _ c.in_ok-certificate_refusal.ensures c.in_ok-certificate_refusal-2.ensures _ (search rows)
