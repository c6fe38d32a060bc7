use Rattle.std.proofs.Common.{refl, ◌∙◌, rules}
use Rattle.std.proofs.Math.ListN.{replicate}
use Rattle.lmots_digits.specs.WriteLaws.{two-written}
use Rattle.lmots_digits.proofs.digits.prefix.Goals as goal

pub returns : goal.returns
returns c = two-written 22 32 c.copy_from_slice.new.self (replicate 32 0) _ _ (search rules) refl c.copy_from_slice-2.ensures.after ∙ rw (c.copy_from_slice.ensures.after, c.front-start.ensures)
