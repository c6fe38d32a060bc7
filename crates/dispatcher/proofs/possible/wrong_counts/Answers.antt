use Rattle.std.proofs.Common.{rules}
use Rattle.dispatch.specs.Dispatcher.{wrong_counts}
use Rattle.dispatcher.proofs.possible.wrong_counts.Goals as goal

pub returns : goal.returns
unfolding wrong_counts
returns c = search rules
