use Rattle.dispatch.specs.Dispatcher.{round_of}
use Rattle.dispatch.specs.Calls.{gives_oldest}
use Rattle.dispatcher.proofs.calls.gives_oldest.Goals as goal

pub returns : goal.returns
unfolding gives_oldest round_of
returns c = rw (c.ticket_at.ensures, c.less_oldest.ensures)
