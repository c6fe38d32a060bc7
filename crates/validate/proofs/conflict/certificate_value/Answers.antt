use Rattle.std.proofs.Common.{arith}
use Rattle.signatures.specs.EntriesLaws.{value-inside}
use Rattle.validate.specs.CallsLaws.{certificate-says}
use Rattle.validate.proofs.conflict.certificate_value.Goals as goal

pub value_at-requires-2 : goal.value_at-requires-2
value_at-requires-2 c = omega (arith, value-inside _ _ c.requires)

pub returns : goal.returns
returns c = search certificate-says
