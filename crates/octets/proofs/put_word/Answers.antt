use Rattle.std.proofs.Common.{sym, ◌∙◌, arith}
use Rattle.octets.specs.OctetsLaws.{be-four, length-be, patch-mid}
use Rattle.octets.proofs.put_word.Goals as goal

pub returns : goal.returns
returns c =
    patch-mid _ _ _ _ _ (c.copy_from_slice.ensures.after ∙ c.to_be_bytes.ensures ∙ sym (be-four c.args.x)) (omega (arith, length-be 4 c.args.x))
