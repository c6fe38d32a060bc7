use Rattle.std.proofs.Common.{arith, rules}
use Rattle.std.proofs.lemmas.Grind.{common_steps}
use Rattle.forms.specs.MessagesLaws.{kind-certificate}
use Rattle.forms.proofs.is_certificate.Goals as goal

pub returns-in-Full : goal.returns-in-Full
returns-in-Full c said e = rw (← kind-certificate said, ← e) (search rules)

pub returns-in_default : goal.returns-in_default
returns-in_default c said e = rw (← kind-certificate said, ← e) (grind (arith, common_steps))
