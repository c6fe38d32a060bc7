use Rattle.refusal.specs.RefusalLaws.{rows}
use Rattle.protocol.specs.Refusals.{opening_conditions}
use Rattle.validate.proofs.calls.opening_refusal.Goals as goal

pub returns-then-wrong_size : goal.returns-then-wrong_size
unfolding opening_conditions
returns-then-wrong_size c = search rows

pub returns-then-wrong_seat : goal.returns-then-wrong_seat
unfolding opening_conditions
returns-then-wrong_seat c = search rows

pub returns-then-wrong_round : goal.returns-then-wrong_round
unfolding opening_conditions
returns-then-wrong_round c = search rows

pub returns-then-wrong_keys : goal.returns-then-wrong_keys
unfolding opening_conditions
returns-then-wrong_keys c = search rows

pub returns : goal.returns
unfolding opening_conditions
returns c = search rows
