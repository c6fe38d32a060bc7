use Rattle.refusal.specs.RefusalLaws.{rows}
use Rattle.forms.specs.Messages.{form_conditions}
use Rattle.forms.proofs.form_refusal.Goals as goal

pub returns-then-not-taken : goal.returns-then-not-taken
unfolding form_conditions
returns-then-not-taken c = search rows

pub returns-then-other_round : goal.returns-then-other_round
unfolding form_conditions
returns-then-other_round c = search rows

pub returns-then-is_stranger : goal.returns-then-is_stranger
unfolding form_conditions
returns-then-is_stranger c = search rows

pub returns-then-is_disordered : goal.returns-then-is_disordered
unfolding form_conditions
returns-then-is_disordered c = search rows

pub returns : goal.returns
unfolding form_conditions
returns c = search rows
