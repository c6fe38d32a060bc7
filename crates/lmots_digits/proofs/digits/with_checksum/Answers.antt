use Rattle.std.proofs.Common.{sym, ap, refl, ◌∙◌, List, ℕ, take, drop, rules}
use Rattle.octets.specs.StringsLaws.{be-two}
use Rattle.lmots_digits.specs.DigitLaws.{checksum-written}
use Rattle.lmots_digits.proofs.digits.with_checksum.Goals as goal

pub returns : goal.returns
returns c =
    checksum-written _ _ _ _ _ _ (search rules) refl c.copy_from_slice.ensures.after
    (c.copy_from_slice-2.ensures.after ∙ ap (λ (l : List ℕ). take 2 (drop 2 l)) c.to_be_bytes.ensures ∙ sym (be-two c.checksum-sum.result)) c.checksum-sum.ensures
