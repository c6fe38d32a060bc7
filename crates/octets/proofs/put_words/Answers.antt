use Rattle.std.proofs.Common.{arith}
use Rattle.octets.specs.Octets.{bytes}
use Rattle.octets.specs.WriteLaws.{patch_none, words-written}
use Rattle.octets.proofs.put_words.Goals as goal

pub loop-i-init : goal.loop-i-init
unfolding bytes
loop-i-init c = patch_none _ _

pub loop-i-preserved : goal.loop-i-preserved
loop-i-preserved c = words-written _ _ _ _ _ _ c.loop-i.invariant c.loop-i-test.true (omega arith) c.put_word.ensures
