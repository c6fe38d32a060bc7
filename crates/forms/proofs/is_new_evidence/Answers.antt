use Rattle.std.proofs.Common.{arith, rules}
use Rattle.std.proofs.lemmas.Grind.{common_steps}
use Rattle.forms.specs.MessagesLaws.{kind-new_evidence}
use Rattle.forms.proofs.is_new_evidence.Goals as goal

pub returns-in-Evidence : goal.returns-in-Evidence
returns-in-Evidence c said e = rw (← kind-new_evidence said, ← e) (search rules)

pub returns-in_default : goal.returns-in_default
returns-in_default c said e = rw (← kind-new_evidence said, ← e) (grind (arith, common_steps))
