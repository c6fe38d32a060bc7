use Rattle.yard.specs.Commands.{told_call}
use Rattle.yard.proofs.commands.call_answer.Goals as goal

pub returns : goal.returns
unfolding told_call
returns c = let told = c.line_of-line.ensures in (rw told.0, told.1)
