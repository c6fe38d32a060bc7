use Rattle.std.proofs.Common.{◌∙◌, sym, get_or, eqb, take, drop, length, ◌-◌, ◌+◌, rules, tests}
use Rattle.std.proofs.lemmas.Iterator.{YieldsList-from_slice}
use Rattle.std.proofs.lemmas.Iterator.Search.{any_from_yields_List}
use Rattle.dispatcher.specs.LoopLaws.{any-later, twice-here, twice-later, twice_none}
use Rattle.dispatcher.proofs.lists.is_distinct.Goals as goal

pub returns-then-any : goal.returns-then-any
returns-then-any c =
    let list = c.args.list.now in
    let i = c.loop-i.i in
    let later = any_from_yields_List (λ y. eqb y (get_or list i 0)) _ _ _ c.any.ensures.ran (YieldsList-from_slice (take (length list - (i + 1)) (drop (i + 1) list)) cc) (λ y b q k. search (rules, tests)) ∙ any-later list i (get_or list i 0) c.loop-i-test.true in
    sym (c.loop-i.invariant ∙ twice-here list i c.loop-i-test.true (sym later ∙ c.if-any.true))

pub loop-i-preserved : goal.loop-i-preserved
loop-i-preserved c =
    let list = c.args.list.now in
    let i = c.loop-i.i in
    let later = any_from_yields_List (λ y. eqb y (get_or list i 0)) _ _ _ c.any.ensures.ran (YieldsList-from_slice (take (length list - (i + 1)) (drop (i + 1) list)) cc) (λ y b q k. search (rules, tests)) ∙ any-later list i (get_or list i 0) c.loop-i-test.true in
    c.loop-i.invariant ∙ twice-later list i c.loop-i-test.true (sym later ∙ c.if-any.false)

pub returns : goal.returns
returns c = sym (c.loop-i.invariant ∙ twice_none c.args.list.now c.loop-i.i c.loop-i-test.false)
