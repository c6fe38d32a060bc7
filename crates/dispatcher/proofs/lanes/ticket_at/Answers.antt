use Rattle.dispatch.specs.Dispatcher.{ticket_at, place, head}
use Rattle.dispatcher.proofs.lanes.ticket_at.Goals as goal

pub returns : goal.returns
unfolding ticket_at place head
returns c = cc
