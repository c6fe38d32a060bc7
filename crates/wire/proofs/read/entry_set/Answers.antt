use Rattle.quorum.specs.Quorum.{most_seats}
use Rattle.protocol.specs.Message.{read}
use Rattle.wire.specs.Reading.{seats_in}
use Rattle.wire.specs.MessageLaws.{known-entries}
use Rattle.wire.proofs.read.entry_set.Goals as goal

pub seat_set-requires : goal.seat_set-requires
seat_set-requires c =
    let args = c.args in
    (c.entries_of-found.ensures.1, known-entries args.n (read args.n args.m.now) (seats_in c.entries_of-found.result args.m.now) most_seats c.requires.1 c.requires.3 c.entries_of-found.ensures.0)
