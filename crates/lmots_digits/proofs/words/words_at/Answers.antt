use Rattle.std.proofs.Common.{ap, ◌∙◌, arith}
use Rattle.octets.specs.Octets.{bytes}
use Rattle.octets.specs.WriteLaws.{bytes-words}
use Rattle.lmots_digits.proofs.words.words_at.Goals as goal

pub returns : goal.returns
returns g c = ap bytes c.words_at.ensures ∙ bytes-words c.args.s.now (λ i. omega (arith, c.type_inv.s i)) _ _ _ c.requires (omega arith)
