use Rattle.lmots_chains.specs.SixteenLaws.{stepped_by}
use Rattle.lmots_chains.proofs.sixteen.step.Goals as goal

pub returns-clause-stepped : goal.returns-clause-stepped
returns-clause-stepped c =
    stepped_by c.args.places.now.words c.args.t c.args.lanes.now.schedule _ c.args.lanes.now.state c.args.v.now _ _ _ _ _ c.put_places.ensures
    c.put_values.ensures c.compress.ensures.same c.compress.ensures.compressed
