use Rattle.std.proofs.Common.{arith}
use Rattle.octets.specs.OctetsLaws.{patch-mid}
use Rattle.octets.proofs.copy.Goals as goal

pub returns : goal.returns
returns c = patch-mid _ _ _ _ _ c.copy_from_slice.ensures.after (omega arith)
