use Rattle.std.proofs.Common.{arith}
use Rattle.std.proofs.lemmas.Grind.{common_steps}
use Rattle.protocol.specs.Refusals.{wrong_lengths}
use Rattle.validate.proofs.calls.wrong_lengths.Goals as goal

pub returns-then-value-value_length : goal.returns-then-value-value_length
unfolding wrong_lengths
returns-then-value-value_length c = grind (arith, common_steps)

pub returns-else-value-value_length : goal.returns-else-value-value_length
unfolding wrong_lengths
returns-else-value-value_length c = grind (arith, common_steps)
