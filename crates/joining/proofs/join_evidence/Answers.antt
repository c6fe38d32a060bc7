use Rattle.std.proofs.Common.{refl}
use Rattle.refusal.specs.AnswersLaws.{handed_on, number-nonzero}
use Rattle.validate.specs.GivenLaws.{given-first, given-last, given_right}
use Rattle.joining.specs.PacksLaws.{packs-passed}
use Rattle.joining.specs.ReturnsLaws.{joining-given-refused, joining-refused, joining-done}
use Rattle.joining.proofs.join_evidence.Goals as goal

pub returns-in_err-fleet : goal.returns-in_err-fleet
returns-in_err-fleet c =
    let e = c.in_err-fleet.field-0.0 in
    rw (handed_on c.from_residual.result e c.from_residual.ensures.1)
    (joining-given-refused _ _ _ _ _ _ (given-first _ _ _ _ _ _ c.in_err-fleet.ensures.number (number-nonzero e)) (number-nonzero e))

pub returns-in_err-out_refusal : goal.returns-in_err-out_refusal
returns-in_err-out_refusal c =
    let e = c.in_err-out_refusal.field-0.0 in
    let short = rw c.joined_out_length.ensures at c.in_err-out_refusal.ensures in
    rw (handed_on c.from_residual-in_err-out_refusal.result e c.from_residual-in_err-out_refusal.ensures.1)
    (joining-given-refused _ _ _ _ _ _ (given-last _ _ _ _ _ c.in_ok-fleet.ensures.number _ short) (number-nonzero e))

pub returns-in_err-packs_refusal : goal.returns-in_err-packs_refusal
returns-in_err-packs_refusal c =
    let e = c.in_err-packs_refusal.field-0.0 in
    let made = c.in_ok-fleet.ensures.made in
    let given = given-last _ _ _ _ _ c.in_ok-fleet.ensures.number 0 (rw c.joined_out_length.ensures at c.in_ok-out_refusal.ensures) in
    rw (handed_on c.from_residual-in_err-packs_refusal.result e c.from_residual-in_err-packs_refusal.ensures.1)
    (joining-refused _ _ _ _ _ _ given refl (rw (made.0, made.1, made.2) at c.in_err-packs_refusal.ensures) (number-nonzero e))

pub write_joined-requires : goal.write_joined-requires
write_joined-requires c =
    let made = c.in_ok-fleet.ensures.made in
    let given = given-last _ _ _ _ _ c.in_ok-fleet.ensures.number 0 (rw c.joined_out_length.ensures at c.in_ok-out_refusal.ensures) in
    let right = given_right _ _ _ _ _ 0 given refl in
    (right.0.some, right.0.most, packs-passed _ _ _ _ _ (rw (made.0, made.1, made.2) at c.in_ok-packs_refusal.ensures) refl, right.1)

pub returns : goal.returns
returns c =
    let made = c.in_ok-fleet.ensures.made in
    let given = given-last _ _ _ _ _ c.in_ok-fleet.ensures.number 0 (rw c.joined_out_length.ensures at c.in_ok-out_refusal.ensures) in
    joining-done _ _ _ _ _ _ given refl (rw (made.0, made.1, made.2) at c.in_ok-packs_refusal.ensures) refl c.write_joined.ensures
