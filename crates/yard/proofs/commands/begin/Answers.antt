use Rattle.yard.specs.CommandsLaws.{begun-told}
use Rattle.yard.proofs.commands.begin.Goals as goal

pub returns : goal.returns
returns c =
    (begun-told c.args.bytes.now c.open-o.result c.line_for.result c.open-o.ensures c.line_for.ensures.0, c.line_for.ensures.1)
