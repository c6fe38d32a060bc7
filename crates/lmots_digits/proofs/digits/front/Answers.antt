use Rattle.std.proofs.Common.{sym, ap, refl, ◌∙◌, List, ℕ, take, drop, rules}
use Rattle.std.proofs.Math.ListN.{replicate}
use Rattle.octets.specs.StringsLaws.{be-two}
use Rattle.lmots_digits.specs.WriteLaws.{front-written}
use Rattle.lmots_digits.proofs.digits.front.Goals as goal

pub returns : goal.returns
returns c =
    front-written _ (replicate 22 0) _ _ _ _ _ (search rules) refl c.put_words.ensures c.put_word.ensures
    (c.copy_from_slice.ensures.after ∙ ap (λ (l : List ℕ). take 2 (drop 2 l)) c.to_be_bytes.ensures ∙ sym (be-two c.args.d))
