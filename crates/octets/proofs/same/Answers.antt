use Rattle.std.proofs.Common.{◌∙◌}
use Rattle.octets.specs.StringsLaws.{equal_same}
use Rattle.octets.proofs.same.Goals as goal

pub returns : goal.returns
returns c = c.eq.ensures ∙ equal_same _ _
