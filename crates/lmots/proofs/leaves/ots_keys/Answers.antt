use Rattle.std.proofs.Common.{arith, rules}
use Rattle.octets.specs.Strings.{joined}
use Rattle.octets.specs.WriteLaws.{patch_none}
use Rattle.lmots.specs.LeavesLaws.{keys_next, keys-done}
use Rattle.lmots.proofs.leaves.ots_keys.Goals as goal

pub loop-l-init : goal.loop-l-init
unfolding joined
loop-l-init c = patch_none _ _

pub loop-l-preserved : goal.loop-l-preserved
loop-l-preserved c = keys_next _ _ _ _ _ _ c.hashed-key.ensures c.loop-l.invariant c.copy.ensures

pub returns : goal.returns
returns c = keys-done _ _ _ _ _ _ _ _ (omega arith) (search rules) c.numbers-leaves.ensures c.put_strings.ensures c.loop-l.invariant
