use Rattle.std.proofs.Common.{rules}
use Rattle.lmots_chains.specs.ChainLaws.{block-padded}
use Rattle.lmots_chains.proofs.chain.block.Goals as goal

pub returns : goal.returns
returns c =
    block-padded c.args.id c.args.tmp c.args.q c.args.i c.args.j
    c.across.result c.across-2.result c.across-3.result c.across-4.result c.across-5.result c.across-6.result c.across-7.result
    (search rules) (search rules) c.requires.0 c.requires.1
    c.across.ensures c.across-2.ensures c.across-3.ensures c.across-4.ensures c.across-5.ensures c.across-6.ensures c.across-7.ensures
