use Rattle.std.proofs.Common.{arith, rules}
use Rattle.std.proofs.lemmas.Grind.{common_steps}
use Rattle.forms.specs.MessagesLaws.{kind-evidence}
use Rattle.forms.proofs.is_evidence.Goals as goal

pub returns-in-OldEvidence : goal.returns-in-OldEvidence
returns-in-OldEvidence c said e = rw (← kind-evidence said, ← e) (search rules)

pub returns-in_default : goal.returns-in_default
returns-in_default c said e = rw (← kind-evidence said, ← e) (grind (arith, common_steps))
