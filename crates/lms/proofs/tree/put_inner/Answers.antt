use Rattle.std.proofs.Common.{arith}
use Rattle.protocol.specs.Layout.{tree_length}
use Rattle.lms.specs.TreeLaws.{inner_put_lem}
use Rattle.lms.proofs.tree.put_inner.Goals as goal

pub bytes_at-requires : goal.bytes_at-requires
unfolding tree_length
bytes_at-requires c = omega arith

pub copy-requires : goal.copy-requires
unfolding tree_length
copy-requires c = omega arith

pub returns : goal.returns
returns c = search inner_put_lem
