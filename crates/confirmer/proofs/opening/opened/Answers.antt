use Rattle.refusal.specs.AnswersLaws.{handed_on}
use Rattle.protocol.specs.Calls.{opening}
use Rattle.protocol.specs.AnswersLaws.{opened-refused, opened-given}
use Rattle.confirmer.proofs.opening.opened.Goals as goal

pub returns-in_err-opening_refusal : goal.returns-in_err-opening_refusal
unfolding opening
returns-in_err-opening_refusal c =
    let e = c.in_err-opening_refusal.field-0.0 in
    rw (handed_on c.from_residual.result e c.from_residual.ensures.1) (opened-refused e _ _ c.in_err-opening_refusal.ensures)

pub returns : goal.returns
unfolding opening
returns c = rw c.fresh.ensures (opened-given _ _ c.in_ok-opening_refusal.ensures)
