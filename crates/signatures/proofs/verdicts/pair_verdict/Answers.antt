use Rattle.std.proofs.Common.{◌∙◌}
use Rattle.refusal.specs.AnswersLaws.{number-nonzero, number-handed_on}
use Rattle.signatures.specs.EntriesLaws.{pair_first, pair-second}
use Rattle.signatures.proofs.verdicts.pair_verdict.Goals as goal

pub returns-in_err-place_verdict : goal.returns-in_err-place_verdict
returns-in_err-place_verdict c =
    let e = c.in_err-place_verdict.field-0.0 in
    number-handed_on c.from_residual.result e c.from_residual.ensures.1 ∙ pair_first _ _ _ c.in_err-place_verdict.ensures (number-nonzero e)

pub returns : goal.returns
returns c = pair-second _ _ _ c.in_ok-place_verdict.ensures c.place_verdict-2.ensures
