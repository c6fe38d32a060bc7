use Rattle.std.proofs.Common.{arith, length-take}
use Rattle.lmots.proofs.key.write_signed.Goals as goal

pub slice_bounds-copy-end : goal.slice_bounds-copy-end
slice_bounds-copy-end c = simp length-take (omega arith)

pub copy-requires : goal.copy-requires
copy-requires c = simp length-take (omega arith)
