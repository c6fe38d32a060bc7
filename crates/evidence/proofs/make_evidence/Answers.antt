use Rattle.std.proofs.Common.{refl}
use Rattle.refusal.specs.AnswersLaws.{handed_on, number-nonzero}
use Rattle.validate.specs.GivenLaws.{given_right}
use Rattle.evidence.specs.PassedLaws.{call, conflicting}
use Rattle.evidence.specs.MakingLaws.{making-given-refused, making-refused, making-done}
use Rattle.evidence.proofs.make_evidence.Goals as goal

pub returns-in_err-given : goal.returns-in_err-given
returns-in_err-given c =
    let e = c.in_err-given.field-0.0 in
    rw (handed_on c.from_residual.result e c.from_residual.ensures.1)
    (making-given-refused (call c.args.n c.args.round c.args.keys.now) _ _ _ c.in_err-given.ensures.number (number-nonzero e))

pub returns-in_err-two_refusal : goal.returns-in_err-two_refusal
returns-in_err-two_refusal c =
    let e = c.in_err-two_refusal.field-0.0 in
    let made = c.in_ok-given.ensures.made in
    rw (handed_on c.from_residual-in_err-two_refusal.result e c.from_residual-in_err-two_refusal.ensures.1)
    (making-refused (call c.args.n c.args.round c.args.keys.now) _ _ _ c.in_ok-given.ensures.number refl (rw (made.0, made.1, made.2) at c.in_err-two_refusal.ensures) (number-nonzero e))

pub write_conflict-requires : goal.write_conflict-requires
write_conflict-requires c =
    let made = c.in_ok-given.ensures.made in
    let right = given_right _ _ _ _ _ 0 c.in_ok-given.ensures.number refl in
    (right.0.some, right.0.most, conflicting _ _ _ _ _ (rw (made.0, made.1, made.2) at c.in_ok-two_refusal.ensures) refl, right.1)

pub returns : goal.returns
returns c =
    let made = c.in_ok-given.ensures.made in
    making-done (call c.args.n c.args.round c.args.keys.now) _ _ _ c.in_ok-given.ensures.number refl (rw (made.0, made.1, made.2) at c.in_ok-two_refusal.ensures) refl c.write_conflict.ensures
