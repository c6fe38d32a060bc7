use Rattle.sha256_constants.specs.RootLaws.{fits-test}
use Rattle.sha256_constants.proofs.fits.Goals as goal

pub returns : goal.returns
returns c = fits-test _ _ _ _ c.requires.2
