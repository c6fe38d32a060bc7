use Rattle.std.proofs.Common.{sym, ◌∙◌}
use Rattle.protocol.specs.Note.{ValuesSized}
use Rattle.protocol.specs.NoteLaws.{length-render_note}
use Rattle.notes.specs.PartsLaws.{parts-written}
use Rattle.notes.proofs.write.put_note.Goals as goal

pub returns : goal.returns
returns c =
    let r = c.args.r in
    let sized : ValuesSized r = record { own = c.put_value.ensures.0; heard = c.put_value-2.ensures.0; first = c.put_value-3.ensures.0 } in (
      parts-written sized c.args.out.now c.put_start.ensures c.put_value.ensures.1 c.put_masks.ensures c.put_value-2.ensures.1 c.put_value-3.ensures.1,
      c.note_length.ensures ∙ sym (length-render_note r sized),
    )
