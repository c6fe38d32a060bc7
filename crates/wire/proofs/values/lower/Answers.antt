use Rattle.std.proofs.Common.{◌∙◌}
use Rattle.wire.specs.StringLaws.{lower_told}
use Rattle.wire.proofs.values.lower.Goals as goal

pub returns : goal.returns
returns c = c.lt.ensures ∙ lower_told c.min-both.result c.args.a.now c.args.b.now c.min-both.ensures
