use Rattle.std.proofs.Common.{◌≡◌, ◌<◌, unwrap_or, IfSome}
use Rattle.dispatch.specs.Dispatcher.{lanes}
use Rattle.dispatch.specs.Turns.{first_new}
use Rattle.dispatcher.proofs.turns.first_new.Given as goal

abbrev pub invariant-loop-lane : goal.invariant-loop-lane
invariant-loop-lane l = (unwrap_or l.found lanes ≡ first_new l.d l.lane) × IfSome l.found (λ k. k < lanes)
