use Rattle.std.proofs.Common.{◌≡◌, ◌≢◌, refl, sym, rules, tests}
use Rattle.std.proofs.lemmas.Iterator.{YieldsList-from_slice, IsFirst-from_position, index_from_first}
use Rattle.dispatch.specs.Dispatcher.{index_of}
use Rattle.dispatcher.specs.LoopLaws.{index-here, index-later}
use Rattle.dispatcher.proofs.lists.index_of.Goals as goal

pub returns-clause-first : goal.returns-clause-first
unfolding index_of
returns-clause-first c =
    let x = c.args.x in
    let list = c.args.list.now in
    sym (index_from_first (index_of x) (λ y. y ≡ x) (λ y. y ≢ x) refl (index-here x) (index-later x) list _
    (IsFirst-from_position _ _ _ (λ y. y ≡ x) (λ y. y ≢ x) c.position.ensures.ran (YieldsList-from_slice list cc)
    (λ y q k. search (rules, tests))
    (λ y q k. search (rules, tests))))
