use Rattle.std.proofs.Common.{refl, ◌∙◌}
use Rattle.refusal.specs.declared.Refusal.TheVariants as refusal
use Rattle.protocol.specs.Record.{zeros}
use Rattle.protocol.specs.AnswersLaws.{opened-refused}
use Rattle.notes.specs.ReturnsLaws.{read_wrong}
use Rattle.notes.proofs.read_note.Goals as goal

pub returns-then-wrong_note : goal.returns-then-wrong_note
returns-then-wrong_note c = c.opened_by.ensures ∙ (opened-refused refusal.Note 17 zeros refl ∙ read_wrong c.args.note.now c.wrong_note.ensures c.if-wrong_note.true zeros)
