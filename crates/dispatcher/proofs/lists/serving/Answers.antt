use Rattle.std.proofs.Common.{rules}
use Rattle.dispatch.specs.Dispatcher.{serving}
use Rattle.dispatcher.proofs.lists.serving.Goals as goal

pub returns-clause-lanes : goal.returns-clause-lanes
unfolding serving
returns-clause-lanes c = search rules
