use Rattle.std.proofs.Common.{rules}
use Rattle.fips180.specs.FormsLaws.{maj-word}
use Rattle.sha256_words.proofs.maj.Goals as goal

pub returns : goal.returns
returns c = maj-word c.args.x c.args.y c.args.z (search rules) (search rules) (search rules)
