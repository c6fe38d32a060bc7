use Rattle.std.proofs.Common.{arith}
use Rattle.wire_write.specs.WritingLaws.{wrote_then}
use Rattle.wire_write.proofs.put_tag.Goals as goal

pub returns : goal.returns
returns c = wrote_then c.put_byte-a.ensures c.put_byte.ensures (omega (arith, c.requires))
