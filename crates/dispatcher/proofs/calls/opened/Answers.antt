use Rattle.std.proofs.Common.{rules}
use Rattle.dispatch.specs.Dispatcher.{opened}
use Rattle.dispatcher.proofs.calls.opened.Goals as goal

pub returns : goal.returns
unfolding opened
returns c = search rules
