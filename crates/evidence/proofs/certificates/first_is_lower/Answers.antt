use Rattle.std.proofs.Common.{◌∙◌}
use Rattle.evidence.specs.MakingLaws.{lower-told}
use Rattle.evidence.proofs.certificates.first_is_lower.Goals as goal

pub returns : goal.returns
returns c = c.lower.ensures ∙ lower-told _ _ _ c.certificate_value-a.ensures c.certificate_value-b.ensures
