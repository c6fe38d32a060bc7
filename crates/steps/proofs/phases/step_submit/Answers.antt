use Rattle.std.proofs.Common.{length, ◌∙◌, arith}
use Rattle.collecting.specs.KeepingLaws.{heard-submit-fits}
use Rattle.steps.specs.StepsLaws.{ready-fits, rest-fits, submit-long, submit-signature, submit-seat, submit-heard}
use Rattle.steps.proofs.phases.step_submit.Goals as goal

pub number_at-requires : goal.number_at-requires
number_at-requires c = omega (arith, c.seat_at.ensures, submit-long c.args.r.n c.args.message.now c.requires.1)

pub value_at-requires-2 : goal.value_at-requires-2
value_at-requires-2 c = omega (arith, c.value_at.ensures, submit-long c.args.r.n c.args.message.now c.requires.1)

pub signature_at-requires : goal.signature_at-requires
signature_at-requires c = omega (arith, c.submit_signature_at.ensures, submit-long c.args.r.n c.args.message.now c.requires.1)

pub invariant_of-submit : goal.invariant_of-submit
invariant_of-submit c =
    let signature = c.signature_at in
    record { whole = submit-signature c.args.r.n c.args.message.now c.requires.1 signature.result.now (signature.ensures ∙ rw c.submit_signature_at.ensures) }

pub hear_submit-unit-requires : goal.hear_submit-unit-requires
hear_submit-unit-requires c =
    let args = c.args in
    let seat = c.number_at in (
      ready-fits args.r args.store.now args.out.now c.requires.0,
      submit-seat args.r.n args.message.now c.requires.1 seat.result (seat.ensures.0 ∙ rw c.seat_at.ensures) c.requires.2,
    )

pub confirm_if_complete-requires : goal.confirm_if_complete-requires
confirm_if_complete-requires c =
    let args = c.args in
    let r = args.r in
    let store = args.store.now in
    let seat = c.number_at in
    let collected = c.hear_submit-unit in
    let known = submit-seat r.n args.message.now c.requires.1 seat.result (seat.ensures.0 ∙ rw c.seat_at.ensures) c.requires.2 in
    let after =
    heard-submit-fits r c.requires.0.possible store (ready-fits r store args.out.now c.requires.0) collected.result collected.new.store collected.auto.store
    seat.result c.value_at-2.result c.signature_at.result.now known collected.ensures in
    (after.0, rest-fits r.n collected.result.n 0 (length args.out.now) after.1 (omega arith) c.requires.0.room)

pub returns : goal.returns
returns c =
    let args = c.args in
    let seat = c.number_at in
    let value = c.value_at-2 in
    let signature = c.signature_at in
    let collected = c.hear_submit-unit in
    let confirmed = c.confirm_if_complete in
    submit-heard args.r args.store.now args.out.now args.message.now collected.result confirmed.result.unit confirmed.new.store confirmed.new.out confirmed.result.at
    seat.result value.result signature.result.now collected.new.store c.requires.1 (seat.ensures.0 ∙ rw c.seat_at.ensures) (value.ensures ∙ rw c.value_at.ensures)
    (signature.ensures ∙ rw c.submit_signature_at.ensures) collected.ensures confirmed.ensures
