use Rattle.std.proofs.Common.{sym, ◌∙◌}
use Rattle.lmots_digits.specs.Width.{bits_of}
use Rattle.lms.specs.Types.{tree_type, ots_type}
use Rattle.lms.specs.TypesLaws.{bits_of-type}
use Rattle.lms.specs.VerifyLaws.{signature-length, signature_ots, signature_lms, signature-leaf}
use Rattle.lms.proofs.verify.signature_refused.Goals as goal

pub returns-then-signature-at : goal.returns-then-signature-at
returns-then-signature-at c =
    signature-length (tree_type c.args.tree) (ots_type c.args.w) c.args.signature.now (bits_of c.args.w) c.ots_length-at.result c.height.result
    (bits_of-type c.args.w) c.ots_length-at.ensures.0 c.height.ensures.0 c.if-signature-at.true

pub returns-then-word_at-ots_type : goal.returns-then-word_at-ots_type
returns-then-word_at-ots_type c =
    signature_ots (tree_type c.args.tree) (ots_type c.args.w) c.args.signature.now (bits_of c.args.w) c.ots_length-at.result c.height.result
    (bits_of-type c.args.w) c.ots_length-at.ensures.0 c.height.ensures.0 c.if-signature-at.false c.word_at.result c.word_at.ensures
    (λ e. c.if-word_at-ots_type.true (e ∙ sym c.ots_type.ensures))

pub returns-then-word_at-number : goal.returns-then-word_at-number
returns-then-word_at-number c =
    signature_lms (tree_type c.args.tree) (ots_type c.args.w) c.args.signature.now (bits_of c.args.w) c.ots_length-at.result c.height.result
    (bits_of-type c.args.w) c.ots_length-at.ensures.0 c.height.ensures.0 c.if-signature-at.false c.word_at.result c.word_at.ensures
    c.word_at-2.result c.word_at-2.ensures (λ e. c.if-word_at-number.true (e ∙ sym c.number.ensures))

pub returns : goal.returns
returns c =
    signature-leaf (tree_type c.args.tree) (ots_type c.args.w) c.args.signature.now (bits_of c.args.w) c.ots_length-at.result c.height.result
    (bits_of-type c.args.w) c.ots_length-at.ensures.0 c.height.ensures.0 c.if-signature-at.false c.word_at.result c.word_at.ensures
    c.word_at-2.result c.word_at-2.ensures (c.if-word_at-ots_type.false ∙ c.ots_type.ensures) (c.if-word_at-number.false ∙ c.number.ensures)
    c.leaves.result c.word_at-3.result c.leaves.ensures.0 c.word_at-3.ensures
