use Rattle.dispatch.specs.Calls.{add_ticket}
use Rattle.dispatcher.specs.ReturnsLaws.{answered}
use Rattle.dispatcher.proofs.calls.add_ticket.Goals as goal

pub returns : goal.returns
unfolding add_ticket
returns c = rw c.dispatched.ensures (answered c.add.result _ _ _ c.add.ensures.number c.add.ensures.new)
