use Rattle.std.proofs.Common.{◌∙◌, ltb, rules, tests}
use Rattle.std.proofs.lemmas.Iterator.{YieldsList-from_slice}
use Rattle.std.proofs.lemmas.Iterator.Search.{any_from_yields_List}
use Rattle.dispatcher.specs.LoopLaws.{any-above}
use Rattle.dispatcher.proofs.lists.some_above.Goals as goal

pub returns : goal.returns
returns c =
    let list = c.args.list.now in
    any_from_yields_List (λ x. ltb c.args.most x) _ _ _ c.any.ensures.ran (YieldsList-from_slice list cc) (λ x b q k. search (rules, tests))
    ∙ any-above c.args.most list
