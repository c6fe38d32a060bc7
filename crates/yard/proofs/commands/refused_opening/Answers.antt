use Rattle.std.proofs.Common.{ap, ◌∙◌}
use Rattle.yard.specs.Commands.{refused_opening}
use Rattle.yard.specs.CommandsLaws.{opening_none}
use Rattle.yard.proofs.commands.refused_opening.Goals as goal

pub returns : goal.returns
returns c = opening_none _ c.«open».result c.number.result c.«open».ensures ∙ ap refused_opening c.number.ensures
