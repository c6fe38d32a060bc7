use Rattle.protocol.specs.Message.{read}
use Rattle.wire.specs.Reading.{seats_in}
use Rattle.forms.specs.TestsLaws.{disorder-told}
use Rattle.forms.proofs.is_disordered.Goals as goal

pub returns : goal.returns
returns c =
    let args = c.args in
    disorder-told (read args.n args.m.now) c.seats_rise.result (seats_in c.entries_of-found.result args.m.now) c.entries_of-found.ensures.0 c.seats_rise.ensures
