use Rattle.lmots_chains.specs.SixteenLaws.{walked_for}
use Rattle.lmots_chains.proofs.sixteen.steps.Goals as goal

pub returns : goal.returns
returns c = walked_for _ _ _ c.args.count _ _ _ c.args.v.now _ _ _ c.prepare.ensures c.walk.ensures
