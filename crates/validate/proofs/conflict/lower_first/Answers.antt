use Rattle.validate.specs.CallsLaws.{pair-order}
use Rattle.validate.proofs.conflict.lower_first.Goals as goal

pub returns : goal.returns
returns c = search pair-order
