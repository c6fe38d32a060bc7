use Rattle.lmots_digits.specs.Pieces.{front}
use Rattle.lms.specs.NodeLaws.{sha256_prefix}
use Rattle.lms.specs.Pieces.{over_children}
use Rattle.lms.proofs.node.inner.Goals as goal

pub returns : goal.returns
unfolding over_children front
returns c = search sha256_prefix
