use Rattle.protocol.specs.Layout.{tree_length}
use Rattle.lms.specs.TreeLaws.{tree-filled}
use Rattle.lms.proofs.tree.fill.Goals as goal

pub returns : goal.returns
unfolding tree_length
returns c = search tree-filled
