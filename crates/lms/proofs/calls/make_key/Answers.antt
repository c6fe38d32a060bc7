use Rattle.std.proofs.Common.{refl, sym, ◌∙◌}
use Rattle.octets.specs.StringsLaws.{patch-nothing}
use Rattle.refusal.specs.Answers.{number_of}
use Rattle.refusal.specs.AnswersLaws.{number-nonzero, handed_on}
use Rattle.rfc8554.specs.VerifyLaws.{length-public_key}
use Rattle.protocol.specs.Layout.{tree_length}
use Rattle.protocol.specs.SignaturesLaws.{make_key-unrefused}
use Rattle.lms.specs.CallsLaws.{key_refused, key_room_lem}
use Rattle.lms.proofs.calls.make_key.Goals as goal

pub returns-in_err-make_key_refusal : goal.returns-in_err-make_key_refusal
returns-in_err-make_key_refusal c =
    let args = c.args in
    let e = c.in_err-make_key_refusal.field-0.0 in
    rw (handed_on c.from_residual.result e c.from_residual.ensures.1)
    (rw (key_refused args.seed.now args.identifier.now args.tree.now args.out.now (number_of e) c.in_err-make_key_refusal.ensures (number-nonzero e))
    (refl, refl, refl, sym (patch-nothing args.out.now)))

pub make-requires : goal.make-requires
make-requires c = key_room_lem _ _ _ _ 0 c.in_ok-make_key_refusal.ensures refl

pub returns : goal.returns
unfolding tree_length
returns c =
    let args = c.args in
    let id = args.identifier.now in
    let r = key_room_lem args.seed.now id args.tree.now args.out.now 0 c.in_ok-make_key_refusal.ensures refl in
    rw (make_key-unrefused args.seed.now id args.tree.now args.out.now r.0 r.1 r.2 r.3)
    (refl, c.key_length.ensures ∙ sym (length-public_key 6 4 id args.seed.now r.1), c.make.ensures.0, c.make.ensures.1)
