use Rattle.std.proofs.Common.{arith}
use Rattle.std.proofs.lemmas.Grind.{common_steps}
use Rattle.protocol.specs.Refusals.{key_allowed}
use Rattle.signatures.proofs.keys.key_allowed.Goals as goal

pub returns-then-word_at-eq6 : goal.returns-then-word_at-eq6
unfolding key_allowed
returns-then-word_at-eq6 c = grind (arith, common_steps)

pub returns-else-word_at-eq6 : goal.returns-else-word_at-eq6
unfolding key_allowed
returns-else-word_at-eq6 c = grind (arith, common_steps)
