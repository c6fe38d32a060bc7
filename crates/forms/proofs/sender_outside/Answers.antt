use Rattle.std.proofs.Common.{ap, ◌∙◌}
use Rattle.protocol.specs.Message.{byte_at}
use Rattle.forms.specs.TestsLaws.{sender-inside, sender-told, sender_none}
use Rattle.forms.proofs.sender_outside.Goals as goal

pub number_at-requires : goal.number_at-requires
number_at-requires c = rw c.seat_at.ensures (sender-inside c.args.kind c.args.n c.args.m.now c.requires c.in-Submit.is)

pub returns-in-Submit : goal.returns-in-Submit
returns-in-Submit c =
    let seat = c.number_at.ensures.0 ∙ ap (byte_at c.args.m.now) c.seat_at.ensures in
    sender-told c.args.kind c.args.n c.args.m.now c.requires c.in-Submit.is c.number_at.result seat

pub returns-in-OldEvidence : goal.returns-in-OldEvidence
returns-in-OldEvidence c = sender_none c.args.kind c.args.n c.args.m.now c.requires c.in-OldEvidence.is
