use Rattle.refusal.specs.RefusalLaws.{rows}
use Rattle.dispatch.specs.Calls.{opening_conditions}
use Rattle.dispatcher.proofs.calls.opening_refusal.Goals as goal

pub returns-then-some_late : goal.returns-then-some_late
unfolding opening_conditions
returns-then-some_late c = search rows

pub returns-then-some_equal : goal.returns-then-some_equal
unfolding opening_conditions
returns-then-some_equal c = search rows

pub returns : goal.returns
unfolding opening_conditions
returns c = search rows
