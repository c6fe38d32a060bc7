use Rattle.std.proofs.Common.{sym, ap, ◌∙◌, arith}
use Rattle.quorum.specs.QuorumLaws.{has_true, has_false}
use Rattle.protocol.specs.Layout.{full_entry_length}
use Rattle.protocol.specs.Message.{full_form}
use Rattle.protocol.specs.Certificate.{entries_of}
use Rattle.wire_write.specs.Writing.{entry}
use Rattle.wire_write.specs.WritingLaws.{going_none, going_skip, going_room, going_on, going_done}
use Rattle.wire_write.proofs.write_entries.Goals.{then-has, else-has}
use Rattle.wire_write.proofs.write_entries.Goals as goal

pub loop-s-init : goal.loop-s-init
loop-s-init c = going_none (omega arith)

pub signature_of-requires : goal.signature_of-requires
signature_of-requires c = (c.requires.0, omega arith, (has_true _ _).0 (sym c.has.ensures ∙ c.if-has.true), c.requires.1)

pub write_entry-end-requires : goal.write_entry-end-requires
unfolding full_form full_entry_length
write_entry-end-requires c =
    (omega (arith, c.requires.0), c.signature_of.ensures.1, going_room c.loop-s.invariant (omega arith) ((has_true _ _).0 (sym c.has.ensures ∙ c.if-has.true)) c.requires.2)

pub loop-s-preserved : goal.loop-s-preserved
unfolding full_form full_entry_length
loop-s-preserved c =
    let written = entry c.loop-s.s in
    elim c.if-has.branch [
      | then-has w ↦
          rw (w.out-is, w.end-is)
          (going_on c.loop-s.invariant (omega arith) ((has_true _ _).0 (sym c.has.ensures ∙ w.if-has.true)) c.requires.2 (written w.signature_of.result.now) (ap written w.signature_of.ensures.0) w.signature_of.ensures.1 w.write_entry-end.ensures)
      | else-has w ↦
          rw (w.out-is, w.end-is) (going_skip c.loop-s.invariant (omega arith) ((has_false _ _).0 (sym c.has.ensures ∙ w.if-has.false)))
    ]

pub returns : goal.returns
unfolding full_form full_entry_length entries_of
returns c = going_done c.loop-s.invariant (omega arith)
