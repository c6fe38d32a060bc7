use Rattle.std.proofs.Common.{◌∙◌, arith}
use Rattle.octets.specs.OctetsLaws.{length-bytes}
use Rattle.octets.specs.WriteLaws.{patch_all}
use Rattle.sha256.proofs.hash.digest.Goals as goal

pub returns : goal.returns
returns c = c.put_words.ensures ∙ patch_all _ _ (omega (arith, length-bytes c.args.h))
