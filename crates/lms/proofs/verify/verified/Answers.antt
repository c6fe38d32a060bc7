use Rattle.std.proofs.Common.{refl, sym, ◌∙◌, true, false, true≢false}
use Rattle.lms.specs.Types.{tree_type, ots_type}
use Rattle.lms.specs.TypesLaws.{bits_of-type}
use Rattle.lms.specs.VerifyLaws.{key_lms, key_types, signature-fits, signature_rejected, signature_compared}
use Rattle.lms.proofs.verify.verified.Goals as goal

-- a key of known types has a type for its tree, and one for its signatures
pub unreachable-requires : goal.unreachable-requires
unreachable-requires c =
    absurd (true≢false (key_lms c.args.key.now c.requires.0 c.word_at.result c.word_at.ensures false c.in_default.ensures.known refl ∙ c.requires.1))

pub unreachable-requires-in_default-width_of : goal.unreachable-requires-in_default-width_of
unreachable-requires-in_default-width_of c =
    absurd
    (true≢false
    (key_types c.args.key.now c.requires.0 c.word_at.result c.word_at.ensures c.word_at-2.result c.word_at-2.ensures true false c.in-Some.ensures.known refl
    c.in_default-width_of.ensures.known
    ∙ c.requires.1))

pub returns-then-signature_refused : goal.returns-then-signature_refused
returns-then-signature_refused c =
    signature_rejected c.args.key.now c.args.message.now c.args.signature.now c.requires.0 c.requires.1 (tree_type c.in-Some.tree) (ots_type c.in-Some-width_of.w)
    (c.in-Some.ensures.number ∙ c.word_at.ensures) (c.in-Some-width_of.ensures.width ∙ c.word_at-2.ensures) _ c.signature_refused.ensures
    c.if-signature_refused.true

pub root_candidate-root-requires : goal.root_candidate-root-requires
root_candidate-root-requires c =
    let fits = signature-fits _ _ _ (sym c.signature_refused.ensures ∙ c.if-signature_refused.false) in
    (rw (bits_of-type c.in-Some-width_of.w) fits.0, fits.1)

pub returns : goal.returns
returns c =
    signature_compared c.args.key.now c.args.message.now c.args.signature.now c.requires.0 c.requires.1 (tree_type c.in-Some.tree) (ots_type c.in-Some-width_of.w)
    (c.in-Some.ensures.number ∙ c.word_at.ensures) (c.in-Some-width_of.ensures.width ∙ c.word_at-2.ensures) _ c.signature_refused.ensures
    c.if-signature_refused.false _ _ _ _ c.words_at-id.ensures (rw (bits_of-type c.in-Some-width_of.w) at c.root_candidate-root.ensures) c.bytes_at.ensures
    c.same-accepted.ensures _ c.signature_verdict.ensures
