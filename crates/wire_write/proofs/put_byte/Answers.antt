use Rattle.wire_write.specs.WritingLaws.{one_byte}
use Rattle.wire_write.proofs.put_byte.Goals as goal

pub returns : goal.returns
returns c = one_byte c.args.at c.args.b c.args.out.now c.requires
