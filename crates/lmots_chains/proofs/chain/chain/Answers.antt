use Rattle.std.proofs.Common.{◌≡◌, refl, arith}
use Rattle.rfc8554.specs.Ots.{chain}
use Rattle.lmots_chains.specs.ChainLaws.{chain_next}
use Rattle.lmots_chains.proofs.chain.chain.Goals as goal

pub loop-t-init : goal.loop-t-init
unfolding chain
loop-t-init c = refl

pub loop-t-preserved : goal.loop-t-preserved
loop-t-preserved c = chain_next _ _ c.loop-t.h _ _ _ c.args.from c.loop-t.t c.loop-t.invariant c.step-next.ensures

pub returns : goal.returns
returns c =
    let all : c.loop-t.t ≡ c.args.count = omega arith in
    rw all at c.loop-t.invariant
