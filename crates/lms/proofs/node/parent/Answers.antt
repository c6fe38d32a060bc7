use Rattle.lms.specs.NodeLaws.{over-two}
use Rattle.lms.proofs.node.parent.Goals as goal

pub returns : goal.returns
returns c = search over-two
