use Rattle.std.proofs.Common.{◌+◌, ap, ◌∙◌, arith}
use Rattle.protocol.specs.Layout.{signature_length, notice_length, submit_length}
use Rattle.protocol.specs.Message.{render}
use Rattle.protocol.specs.MessageLaws.{length-submit}
use Rattle.wire_write.specs.Writing.{head}
use Rattle.wire_write.specs.WritingLaws.{wrote_then}
use Rattle.wire_write.proofs.write_submit.Goals as goal

pub write_head-a-requires : goal.write_head-a-requires
unfolding notice_length submit_length
write_head-a-requires c = omega arith

pub put-requires : goal.put-requires
unfolding notice_length submit_length signature_length
put-requires c = omega (arith, c.requires)

pub returns : goal.returns
unfolding render
returns c =
    let args = c.args in
    let wrote = wrote_then {us = head 0x01 args.round args.seat args.value.now} c.write_head-a.ensures.0 c.put.ensures (omega (arith, c.requires)) in
    (wrote, wrote.ends ∙ ap (λ l. args.at + l) (length-submit args.round args.seat args.value.now args.signature.now c.requires.1 c.requires.2))
