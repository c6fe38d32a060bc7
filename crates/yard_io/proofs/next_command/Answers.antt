use Rattle.yard.specs.Commands.{told}
use Rattle.yard_io.proofs.next_command.Goals as goal

pub returns-clause-ok : goal.returns-clause-ok
unfolding told
returns-clause-ok g c =
    let said = c.take_command-answer.ensures.0.0 in
    record {
      command = c.in_ok-have.ensures.ok;
      ends = rw said;
      unit = rw said;
      stored = c.take_command-answer.ensures.1;
      written = c.take_command-answer.ensures.2;
    }
