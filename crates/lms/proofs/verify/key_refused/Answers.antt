use Rattle.std.proofs.Common.{sym, ◌∙◌}
use Rattle.lms.specs.TypesLaws.{not_swapped}
use Rattle.lms.specs.VerifyLaws.{key_length_lem, key_lms, key_types}
use Rattle.lms.proofs.verify.key_refused.Goals as goal

pub returns-then-key-key_length : goal.returns-then-key-key_length
returns-then-key-key_length c = key_length_lem c.args.key.now (λ e. c.if-key-key_length.true (e ∙ sym c.key_length.ensures))

pub returns-then-is_none : goal.returns-then-is_none
returns-then-is_none c =
    c.if-is_none.true
    ∙ key_lms c.args.key.now (c.if-key-key_length.false ∙ c.key_length.ensures) c.word_at.result c.word_at.ensures _ c.of-tree.ensures.known c.if-is_none.ensures

pub returns-else-is_none : goal.returns-else-is_none
returns-else-is_none c =
    not_swapped _ _ c.is_none-else-is_none.ensures
    ∙ key_types c.args.key.now (c.if-key-key_length.false ∙ c.key_length.ensures) c.word_at.result c.word_at.ensures c.word_at-2.result c.word_at-2.ensures
    _ _ c.of-tree.ensures.known c.if-is_none.ensures c.width_of-width.ensures.known
