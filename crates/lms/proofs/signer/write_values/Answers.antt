use Rattle.lms.specs.SignerLaws.{values_for}
use Rattle.lms.proofs.signer.write_values.Goals as goal

pub returns : goal.returns
returns c = search values_for
