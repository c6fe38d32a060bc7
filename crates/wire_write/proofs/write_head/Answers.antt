use Rattle.std.proofs.Common.{◌+◌, ap, ◌∙◌, arith}
use Rattle.protocol.specs.Layout.{notice_length}
use Rattle.wire_write.specs.WritingLaws.{wrote_then, length-command, length-head}
use Rattle.wire_write.proofs.write_head.Goals as goal

pub put_command-a-requires : goal.put_command-a-requires
unfolding notice_length
put_command-a-requires c = omega arith

pub put_byte-b-requires : goal.put_byte-b-requires
unfolding notice_length
put_byte-b-requires c = omega (arith, length-command c.args.command c.args.round)

pub put-requires : goal.put-requires
unfolding notice_length
put-requires c = omega (arith, length-command c.args.command c.args.round)

pub returns : goal.returns
returns c =
    let args = c.args in
    let wrote = wrote_then (wrote_then c.put_command-a.ensures c.put_byte-b.ensures (omega (arith, c.requires))) c.put.ensures (omega (arith, c.requires)) in
    (wrote, wrote.ends ∙ ap (λ l. args.at + l) (length-head args.command args.round args.seat args.value.now c.requires.1))
