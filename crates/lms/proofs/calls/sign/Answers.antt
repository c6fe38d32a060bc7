use Rattle.std.proofs.Common.{refl, sym, ◌∙◌, arith}
use Rattle.octets.specs.StringsLaws.{patch-nothing}
use Rattle.refusal.specs.Answers.{number_of}
use Rattle.refusal.specs.AnswersLaws.{number-nonzero, handed_on}
use Rattle.protocol.specs.Layout.{signature_length, tree_length, message_limit}
use Rattle.protocol.specs.SignaturesLaws.{sign-unrefused, length-lms_signature_six_four}
use Rattle.lms.specs.CallsLaws.{signer-refused, signer-room}
use Rattle.lms.proofs.calls.sign.Goals as goal

pub returns-in_err-sign_refusal : goal.returns-in_err-sign_refusal
returns-in_err-sign_refusal c =
    let args = c.args in
    let e = c.in_err-sign_refusal.field-0.0 in
    rw (handed_on c.from_residual.result e c.from_residual.ensures.1)
    (rw (signer-refused args.leaf args.message.now args.seed.now args.identifier.now args.randomizer.now args.tree.now args.out.now (number_of e) c.in_err-sign_refusal.ensures (number-nonzero e))
    (refl, refl, sym (patch-nothing args.out.now)))

pub write_signature-requires : goal.write_signature-requires
write_signature-requires c =
    let r = signer-room _ _ _ _ _ _ _ 0 c.in_ok-sign_refusal.ensures refl in
    (omega arith, r.3, r.4, r.5, r.6, r.1)

pub overflow_cast-result : goal.overflow_cast-result
unfolding signature_length
overflow_cast-result c = omega arith

pub returns : goal.returns
unfolding tree_length message_limit
returns c =
    let args = c.args in
    let id = args.identifier.now in
    let r = signer-room args.leaf args.message.now args.seed.now id args.randomizer.now args.tree.now args.out.now 0 c.in_ok-sign_refusal.ensures refl in
    rw (sign-unrefused args.seed.now id args.tree.now args.out.now r.3 r.4 r.6 args.leaf args.message.now args.randomizer.now r.0 r.2 r.5 r.1)
    (refl, c.signature_length.ensures ∙ sym (length-lms_signature_six_four id args.leaf args.seed.now args.randomizer.now args.message.now args.tree.now r.0 r.5 r.6), c.write_signature.ensures)
