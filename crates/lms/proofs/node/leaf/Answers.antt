use Rattle.rfc8554.specs.Tree.{leaf_input}
use Rattle.lmots_digits.specs.Pieces.{front}
use Rattle.lms.specs.NodeLaws.{sha256_prefix}
use Rattle.lms.proofs.node.leaf.Goals as goal

pub returns : goal.returns
unfolding leaf_input front
returns c = search sha256_prefix
