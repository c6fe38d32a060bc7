use Rattle.std.proofs.Common.{◌≡◌, refl, arith, rules}
use Rattle.octets.specs.Strings.{joined}
use Rattle.octets.specs.WriteLaws.{patch_none}
use Rattle.lmots_batches.specs.BatchesLaws.{finish_next, finish-done}
use Rattle.lmots_batches.proofs.finish.Goals as goal

pub loop-i-init : goal.loop-i-init
unfolding joined
loop-i-init c = patch_none 0 c.args.z.now

pub loop-i-preserved : goal.loop-i-preserved
loop-i-preserved c =
    finish_next _ _ _ _ _ (search rules) _ _ _ _ _ _ _ (omega arith) c.loop-i.invariant c.words_at-y.ensures refl c.left.ensures c.chain-x.ensures c.put_words.ensures

pub returns : goal.returns
returns c =
    let all : c.loop-i.i ≡ c.args.chains.now.n = omega arith in
    finish-done _ _ _ _ _ (search rules) _ _ (omega arith) (rw all at c.loop-i.invariant)
