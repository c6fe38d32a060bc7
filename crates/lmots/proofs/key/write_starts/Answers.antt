use Rattle.octets.specs.Strings.{joined}
use Rattle.octets.specs.WriteLaws.{patch_none}
use Rattle.lmots.specs.KeyLaws.{starts_next}
use Rattle.lmots.proofs.key.write_starts.Goals as goal

pub loop-i-init : goal.loop-i-init
unfolding joined
loop-i-init c = patch_none _ _

pub loop-i-preserved : goal.loop-i-preserved
loop-i-preserved c = starts_next _ _ _ _ _ _ _ _ c.loop-i.invariant c.start-x.ensures c.put_words.ensures
