use Rattle.std.proofs.Common.{refl, rules}
use Rattle.std.specs.Prelude.{Ok, Err}
use Rattle.dispatch.specs.Dispatcher.{zeros}
use Rattle.dispatch.specs.Calls.{open_dispatcher}
use Rattle.dispatcher.specs.ReturnsLaws.{answered}
use Rattle.dispatcher.proofs.calls.open_dispatcher.Goals as goal

pub returns-in-Ok : goal.returns-in-Ok
unfolding open_dispatcher
returns-in-Ok c = rw c.opened.ensures (answered (Ok _) _ _ _ c.in-Ok.ensures refl)

pub returns-in-Err : goal.returns-in-Err
unfolding open_dispatcher zeros
returns-in-Err c = rw (c.number.ensures, c.opened-in-Err.ensures) (answered (Err c.in-Err.refusal) _ _ _ c.in-Err.ensures (search rules))
