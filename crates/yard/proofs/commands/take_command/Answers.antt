-- The arguments of a call are there, by the command that stands whole; then the laws of `CommandsLaws`.
use Rattle.std.proofs.Common.{◌≡◌, ◌≤◌, length, Some, refl, rules}
use Rattle.protocol.specs.Signatures.{checks}
use Rattle.yard.specs.Commands.{message_at, own_signature_at, whole_call}
use Rattle.yard.specs.CommandsLaws.{none_misframed, message-framed, message-first, message-there, submit-framed, submit-first, submit-there, called_misframed, called-message, called-submit}
use Rattle.yard.specs.declared.commands.Call.TheVariants as call
use Rattle.yard.proofs.commands.take_command.Goals as goal

pub slice_bounds-message-count : goal.slice_bounds-message-count
slice_bounds-message-count c =
    let arm = c.in-Some-Message in
    message-there c.args.bytes.now (rw arm.field-0-is at arm.ensures)

pub slice_bounds-message-start : goal.slice_bounds-message-start
slice_bounds-message-start c =
    let arm = c.in-Some-Message in
    let h : message_at ≤ length c.args.bytes.now = message-there c.args.bytes.now (rw arm.field-0-is at arm.ensures) in
    search rules

pub slice_bounds-value-end : goal.slice_bounds-value-end
slice_bounds-value-end c =
    let arm = c.in-Some-Submit in
    let h : own_signature_at ≤ length c.args.bytes.now = submit-there c.args.bytes.now (rw arm.field-0-is at arm.ensures) in
    search rules

pub slice_bounds-signature-count : goal.slice_bounds-signature-count
slice_bounds-signature-count c =
    let arm = c.in-Some-Submit in
    submit-there c.args.bytes.now (rw arm.field-0-is at arm.ensures)

pub slice_bounds-signature-start : goal.slice_bounds-signature-start
slice_bounds-signature-start c =
    let arm = c.in-Some-Submit in
    let h : own_signature_at ≤ length c.args.bytes.now = submit-there c.args.bytes.now (rw arm.field-0-is at arm.ensures) in
    search rules

pub returns-in-None : goal.returns-in-None
returns-in-None c =
    let args = c.args in
    called_misframed checks args.keys.now args.r args.store.now args.out.now args.bytes.now (none_misframed args.bytes.now c.in-None.ensures) c.line_for.result (rw c.number.ensures at c.line_for.ensures)

pub returns-in-Some-Message : goal.returns-in-Some-Message
returns-in-Some-Message c =
    let args = c.args in
    let arm = c.in-Some-Message in
    let whole : Some call.Message ≡ whole_call args.bytes.now = rw arm.field-0-is at arm.ensures in
    called-message checks args.keys.now args.r args.store.now args.out.now args.bytes.now (message-framed args.bytes.now whole) _ refl
    c.step.result c.call_answer.result c.call_answer.ensures c.step.new.store c.step.new.out (message-first args.bytes.now whole) _ refl
    c.step.ensures.0 c.step.ensures.1 c.step.ensures.2

pub returns-in-Some-Submit : goal.returns-in-Some-Submit
returns-in-Some-Submit c =
    let args = c.args in
    let arm = c.in-Some-Submit in
    let whole : Some call.Submit ≡ whole_call args.bytes.now = rw arm.field-0-is at arm.ensures in
    let told = c.call_answer-in-Some-Submit in
    called-submit checks args.keys.now args.r args.store.now args.out.now args.bytes.now (submit-framed args.bytes.now whole) _ refl
    c.submit.result told.result told.ensures c.submit.new.store c.submit.new.out (submit-first args.bytes.now whole) _ _ refl refl
    c.submit.ensures.0 c.submit.ensures.1 c.submit.ensures.2
