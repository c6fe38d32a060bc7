use Rattle.yard.specs.CommandsLaws.{whole_short, whole-called}
use Rattle.yard.proofs.commands.whole_call.Goals as goal

pub returns-then-bytes-call_length : goal.returns-then-bytes-call_length
returns-then-bytes-call_length c =
    whole_short c.args.bytes.now c.call_length.result c.call_length.ensures.0 c.if-bytes-call_length.true

pub returns : goal.returns
returns c =
    whole-called c.args.bytes.now c.call_length.result c.call_length.ensures.0 c.if-bytes-call_length.false c.call_of.result c.call_of.ensures
