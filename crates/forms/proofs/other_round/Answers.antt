use Rattle.forms.specs.TestsLaws.{round-inside, round-told, round_garbled}
use Rattle.forms.proofs.other_round.Goals as goal

pub returns-in-Garbled : goal.returns-in-Garbled
returns-in-Garbled c = round_garbled c.args.kind c.args.n c.args.m.now c.requires c.in-Garbled.is c.args.round

pub round_of-requires : goal.round_of-requires
round_of-requires c = round-inside c.args.kind c.args.n c.args.m.now c.requires c.in_default.not-Garbled

pub returns : goal.returns
returns c =
    round-told c.args.kind c.args.n c.args.m.now c.requires c.in_default.not-Garbled c.round_of.result c.args.round c.round_of.ensures
