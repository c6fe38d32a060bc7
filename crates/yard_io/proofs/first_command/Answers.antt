use Rattle.yard.specs.Commands.{told}
use Rattle.yard_io.proofs.first_command.Goals as goal

pub returns-clause-ok : goal.returns-clause-ok
unfolding told
returns-clause-ok g c =
    let said = c.begin-begun.ensures.0 in
    record { command = c.in_ok-have.ensures.ok; ends = rw said; unit = rw said }
