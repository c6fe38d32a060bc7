use Rattle.std.proofs.Common.{arith, rules}
use Rattle.std.proofs.lemmas.Grind.{common_steps}
use Rattle.forms.specs.MessagesLaws.{kind-for_step}
use Rattle.forms.proofs.is_for_step.Goals as goal

pub returns-in-Submit : goal.returns-in-Submit
returns-in-Submit c said e = rw (← kind-for_step said, ← e) (search rules)

pub returns-in_default : goal.returns-in_default
returns-in_default c said e = rw (← kind-for_step said, ← e) (grind (arith, common_steps))
