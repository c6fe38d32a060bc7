use Rattle.std.proofs.Common.{arith}
use Rattle.octets.specs.WriteLaws.{pieces}
use Rattle.lms.proofs.node.pair.Goals as goal

pub returns : goal.returns
returns c = pieces 32 _ _ _ _ _ c.copy.ensures (omega arith) (omega arith) c.copy-2.ensures
