use Rattle.std.proofs.Common.{arith}
use Rattle.wire_write.specs.WritingLaws.{wrote_then, length-command}
use Rattle.wire_write.proofs.write_pack_head.Goals as goal

pub put_byte-requires : goal.put_byte-requires
put_byte-requires c = omega (arith, length-command 7 c.args.round)

pub returns : goal.returns
returns c = (wrote_then c.put_command-a.ensures c.put_byte.ensures (omega (arith, c.requires)), omega (arith, length-command 7 c.args.round))
