use Rattle.std.proofs.Common.{rules}
use Rattle.fips180.specs.FormsLaws.{ch-word}
use Rattle.sha256_words.proofs.ch.Goals as goal

pub returns : goal.returns
returns c = ch-word c.args.x c.args.y c.args.z (search rules) (search rules) (search rules)
