use Rattle.std.proofs.Common.{sym, ap₂, ◌∙◌, arith}
use Rattle.quorum.specs.QuorumLaws.{has_true, has_false}
use Rattle.protocol.specs.Layout.{evidence_entry_length}
use Rattle.protocol.specs.Message.{evidence_form}
use Rattle.protocol.specs.MessageLaws.{pair-laid}
use Rattle.protocol.specs.Certificate.{pairs_of}
use Rattle.wire_write.specs.Writing.{pair}
use Rattle.wire_write.specs.WritingLaws.{going_none, going_skip, going_room, going_on, going_done}
use Rattle.wire_write.proofs.write_pairs.Goals.{then-has, else-has}
use Rattle.wire_write.proofs.write_pairs.Goals as goal

pub loop-s-init : goal.loop-s-init
loop-s-init c = going_none (omega arith)

pub signature_of-l-requires : goal.signature_of-l-requires
signature_of-l-requires c =
    (c.requires.0, omega arith, c.requires.1 c.loop-s.s ((has_true _ _).0 (sym c.has.ensures ∙ c.if-has.true)), c.requires.2)

pub signature_of-h-requires : goal.signature_of-h-requires
signature_of-h-requires c =
    (c.requires.0, omega arith, c.requires.3 c.loop-s.s ((has_true _ _).0 (sym c.has.ensures ∙ c.if-has.true)), c.requires.4)

pub write_pair-end-requires : goal.write_pair-end-requires
unfolding evidence_form evidence_entry_length
write_pair-end-requires c = (
  omega (arith, c.requires.0),
  c.signature_of-l.ensures.1,
  c.signature_of-h.ensures.1,
  going_room c.loop-s.invariant (omega arith) ((has_true _ _).0 (sym c.has.ensures ∙ c.if-has.true)) c.requires.5,
)

pub loop-s-preserved : goal.loop-s-preserved
unfolding evidence_form evidence_entry_length
loop-s-preserved c =
    let written = pair c.loop-s.s c.args.lower.value c.args.higher.value in
    elim c.if-has.branch [
      | then-has w ↦
          let low = w.signature_of-l in
          let high = w.signature_of-h in
          rw (w.out-is, w.end-is)
          (going_on c.loop-s.invariant (omega arith) ((has_true _ _).0 (sym c.has.ensures ∙ w.if-has.true)) c.requires.5 (written low.result.now high.result.now) (ap₂ written low.ensures.0 high.ensures.0)
          (pair-laid (written low.result.now high.result.now) (omega arith) (omega arith) low.ensures.1 high.ensures.1).0 w.write_pair-end.ensures)
      | else-has w ↦
          rw (w.out-is, w.end-is) (going_skip c.loop-s.invariant (omega arith) ((has_false _ _).0 (sym c.has.ensures ∙ w.if-has.false)))
    ]

pub returns : goal.returns
unfolding evidence_form evidence_entry_length pairs_of
returns c = going_done c.loop-s.invariant (omega arith)
