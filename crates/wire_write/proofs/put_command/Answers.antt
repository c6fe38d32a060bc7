use Rattle.std.proofs.Common.{arith}
use Rattle.octets.specs.StringsLaws.{be-two}
use Rattle.wire_write.specs.WritingLaws.{wrote_then}
use Rattle.wire_write.proofs.put_command.Goals as goal

pub returns : goal.returns
returns c = rw be-two (wrote_then c.put_byte-a.ensures (rw c.to_be_bytes.ensures at c.put.ensures) (omega (arith, c.requires)))
