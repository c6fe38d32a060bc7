use Rattle.std.proofs.Common.{◌<◌}
use Rattle.std.proofs.lemmas.Bool.{lt-leb}
use Rattle.dispatch.specs.Dispatcher.{lanes, round_of}
use Rattle.dispatch.specs.Turns.{goes_first}
use Rattle.dispatcher.proofs.turns.goes_first.Goals as goal

pub returns-in-Some : goal.returns-in-Some
unfolding goes_first round_of
returns-in-Some c =
    let within : c.in-Some.other < lanes = rw c.in-Some.is at c.requires.other in
    rw (c.in-Some.is, lt-leb lanes _ within)

pub returns-in-None : goal.returns-in-None
unfolding goes_first
returns-in-None c = rw c.in-None.is
