use Rattle.std.proofs.Common.{◌≡◌, drop}
use Rattle.dispatch.specs.Dispatcher.{serving}
use Rattle.dispatch.specs.Turns.{longest_ago}
use Rattle.dispatcher.proofs.turns.longest_ago.Given as goal

abbrev pub invariant-loop-lane : goal.invariant-loop-lane
invariant-loop-lane l = longest_ago l.fn.d (serving l.fn.d) ≡ longest_ago l.fn.d (drop l.lane-index l.lane-items)
