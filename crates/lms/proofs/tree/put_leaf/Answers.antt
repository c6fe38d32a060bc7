use Rattle.std.proofs.Common.{arith}
use Rattle.protocol.specs.Layout.{tree_length}
use Rattle.lms.specs.NodeLaws.{leaf_put}
use Rattle.lms.proofs.tree.put_leaf.Goals as goal

pub copy-requires : goal.copy-requires
unfolding tree_length
copy-requires c = omega arith

pub returns : goal.returns
returns c = search leaf_put
