use Rattle.sha256_constants.specs.RootLaws.{fraction_of}
use Rattle.sha256_constants.proofs.fraction.Goals as goal

pub returns : goal.returns
returns c = fraction_of _ _ c.requires.0 c.longer-root32.ensures
