use Rattle.dispatch.specs.Calls.{gives_none}
use Rattle.dispatcher.proofs.calls.gives_none.Goals as goal

pub returns : goal.returns
unfolding gives_none
returns c = rw c.number_in.ensures
