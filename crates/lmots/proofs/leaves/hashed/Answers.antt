use Rattle.std.proofs.Math.Nat.{add-sub_cancel_left}
use Rattle.octets.specs.Octets.{part}
use Rattle.lmots.proofs.leaves.hashed.Goals as goal

pub returns : goal.returns
unfolding part
returns c = rw add-sub_cancel_left at c.sha256.ensures
