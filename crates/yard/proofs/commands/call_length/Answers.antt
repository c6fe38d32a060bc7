use Rattle.std.proofs.Common.{rules}
use Rattle.protocol.specs.Layout.{signature_length}
use Rattle.yard.specs.CommandsLaws.{length-message, length-submit, length-other}
use Rattle.yard.proofs.commands.call_length.Goals as goal

pub returns-in-Some-Message : goal.returns-in-Some-Message
returns-in-Some-Message c =
    let arm = c.in-Some-Message in
    (length-message c.args.bytes.now (rw arm.field-0-is at arm.ensures) c.two_at.result c.two_at.ensures.0, search rules)

pub returns-in-Some-Submit : goal.returns-in-Some-Submit
unfolding signature_length
returns-in-Some-Submit c =
    let arm = c.in-Some-Submit in
    (length-submit c.args.bytes.now (rw arm.field-0-is at arm.ensures), search rules)

pub returns-in-None : goal.returns-in-None
returns-in-None c = (length-other c.args.bytes.now c.in-None.ensures, search rules)
