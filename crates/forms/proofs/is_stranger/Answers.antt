use Rattle.protocol.specs.Message.{read}
use Rattle.wire.specs.Reading.{seats_in}
use Rattle.forms.specs.TestsLaws.{stranger-sender, stranger-entries}
use Rattle.forms.proofs.is_stranger.Goals as goal

pub returns-then-sender_outside : goal.returns-then-sender_outside
returns-then-sender_outside c =
    stranger-sender c.args.n (read c.args.n c.args.m.now) c.sender_outside.result c.sender_outside.ensures c.if-sender_outside.true

pub returns : goal.returns
returns c =
    let args = c.args in
    stranger-entries args.n (read args.n args.m.now) c.sender_outside.result c.sender_outside.ensures c.if-sender_outside.false
    c.seats_below.result (seats_in c.entries_of-found.result args.m.now) c.entries_of-found.ensures.0 c.seats_below.ensures
