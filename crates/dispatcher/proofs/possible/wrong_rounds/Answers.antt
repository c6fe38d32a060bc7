use Rattle.dispatch.specs.Dispatcher.{wrong_rounds}
use Rattle.dispatcher.proofs.possible.wrong_rounds.Goals as goal

pub returns-then-some_late : goal.returns-then-some_late
unfolding wrong_rounds
returns-then-some_late c = rw (← c.some_late.ensures, c.if-some_late.true)

pub returns-else-some_late : goal.returns-else-some_late
unfolding wrong_rounds
returns-else-some_late c = rw (← c.some_late.ensures, c.if-some_late.false) c.some_equal.ensures
