use Rattle.std.proofs.Common.{refl, ◌∙◌}
use Rattle.refusal.specs.Answers.{number_of}
use Rattle.refusal.specs.AnswersLaws.{handed_on}
use Rattle.protocol.specs.AnswersLaws.{opened-refused, opened-given}
use Rattle.notes.specs.ReturnsLaws.{right_length, read_right}
use Rattle.notes.proofs.record_in.Goals as goal

pub note_record-unit-requires : goal.note_record-unit-requires
note_record-unit-requires c = right_length _ refl c.requires

pub returns-in_err-record_refusal : goal.returns-in_err-record_refusal
returns-in_err-record_refusal c =
    let e = c.in_err-record_refusal.field-0.0 in
    rw (handed_on c.from_residual.result e c.from_residual.ensures.1)
    (opened-refused e (number_of e) _ refl
    ∙ read_right c.args.note.now refl c.requires (number_of e) (rw c.note_record-unit.ensures at c.in_err-record_refusal.ensures))

pub returns : goal.returns
returns c =
    rw c.note_record-unit.ensures
    (opened-given 0 _ refl ∙ read_right c.args.note.now refl c.requires 0 (rw c.note_record-unit.ensures at c.in_ok-record_refusal.ensures))
