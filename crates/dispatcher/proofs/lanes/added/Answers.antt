use Rattle.std.proofs.Common.{arith}
use Rattle.dispatch.specs.Dispatcher.{place, head, count}
use Rattle.dispatch.specs.Turns.{added}
use Rattle.dispatcher.proofs.lanes.added.Goals as goal

pub place-at-requires : goal.place-at-requires
unfolding count
place-at-requires c = c.requires

pub overflow_add-next : goal.overflow_add-next
unfolding count
overflow_add-next c = omega (arith, c.requires.1)

pub returns : goal.returns
unfolding added place head count
returns c = rw c.place-at.ensures.0
