use Rattle.std.proofs.Common.{refl, ◌∙◌}
use Rattle.refusal.specs.AnswersLaws.{number-nonzero, number-handed_on}
use Rattle.refusal.specs.RefusalLaws.{refused_first, rows_passed}
use Rattle.joining.specs.PacksLaws.{joined-nonzero}
use Rattle.joining.proofs.refusals.packs_refusal.Goals as goal

pub returns-in_err-joined_refusal : goal.returns-in_err-joined_refusal
returns-in_err-joined_refusal c =
    let e = c.in_err-joined_refusal.field-0.0 in
    number-handed_on c.from_residual.result e c.from_residual.ensures.1 ∙ refused_first _ _ _ c.in_err-joined_refusal.ensures (number-nonzero e)

pub returns : goal.returns
returns c = rows_passed _ _ 0 c.in_ok-joined_refusal.ensures (joined-nonzero _ _ _ _) refl _ c.joined_refusal-2.ensures
