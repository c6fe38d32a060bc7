use Rattle.std.proofs.Common.{rules}
use Rattle.dispatch.specs.Dispatcher.{count}
use Rattle.dispatch.specs.Turns.{is_waiting}
use Rattle.dispatcher.proofs.turns.is_waiting.Goals as goal

pub returns : goal.returns
unfolding is_waiting count
returns c = search rules
