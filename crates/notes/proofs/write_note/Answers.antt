use Rattle.std.proofs.Common.{refl}
use Rattle.refusal.specs.AnswersLaws.{handed_on, number-nonzero}
use Rattle.notes.specs.ReturnsLaws.{write-refused, write-fits, write_done}
use Rattle.notes.proofs.write_note.Goals as goal

pub returns-in_err-write_refusal : goal.returns-in_err-write_refusal
returns-in_err-write_refusal c =
    let e = c.in_err-write_refusal.field-0.0 in
    rw (handed_on c.from_residual.result e c.from_residual.ensures.1) (write-refused c.args.r c.args.out.now c.in_err-write_refusal.ensures (number-nonzero e))

pub put_note-requires : goal.put_note-requires
put_note-requires c = write-fits c.args.r c.args.out.now c.in_ok-write_refusal.ensures refl

pub returns : goal.returns
returns c = write_done c.args.r c.args.out.now c.in_ok-write_refusal.ensures refl c.put_note.ensures.0 c.put_note.ensures.1
