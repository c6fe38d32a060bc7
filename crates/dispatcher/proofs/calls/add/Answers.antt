use Rattle.std.proofs.Common.{◌∙◌, sym, arith, rules}
use Rattle.refusal.specs.RefusalLaws.{rows}
use Rattle.dispatch.specs.Dispatcher.{places, lane_of, count}
use Rattle.dispatch.specs.Calls.{adding_conditions}
use Rattle.dispatch_claims.specs.ListLaws.{not_above}
use Rattle.dispatch_claims.specs.CallsLaws.{holds}
use Rattle.dispatcher.specs.ReturnsLaws.{add-unknown, add-full, add-taken}
use Rattle.dispatcher.proofs.calls.add.Goals as goal

pub returns-then-wrong_round-clause-number : goal.returns-then-wrong_round-clause-number
unfolding adding_conditions
returns-then-wrong_round-clause-number c = search rows

pub returns-then-is_impossible-clause-number : goal.returns-then-is_impossible-clause-number
unfolding adding_conditions
returns-then-is_impossible-clause-number c = search rows

pub returns-in_default-clause-number : goal.returns-in_default-clause-number
returns-in_default-clause-number c =
    add-unknown c.args.d c.args.round _ (search rules) (sym c.wrong_round.ensures ∙ c.if-wrong_round.false)
    (sym c.is_impossible.ensures ∙ c.if-is_impossible.false)
    c.in_default.ensures.first
    (search rules)

pub returns-then-is_full-clause-number : goal.returns-then-is_full-clause-number
returns-then-is_full-clause-number c =
    add-full c.args.d c.args.round _ (search rules) (sym c.wrong_round.ensures ∙ c.if-wrong_round.false)
    (sym c.is_impossible.ensures ∙ c.if-is_impossible.false)
    c.in-Some.ensures.first
    (search rules)
    (omega (arith, c.if-is_full.true))

pub added-requires : goal.added-requires
unfolding count
added-requires c =
    let possible = sym c.is_impossible.ensures ∙ c.if-is_impossible.false in
    let few = not_above places c.args.d.counts (holds c.args.d possible).counted c.in-Some.lane in
    (search rules, omega (arith, few, c.if-is_full.false))

pub returns-clause-number : goal.returns-clause-number
returns-clause-number c =
    add-taken c.args.d c.args.round _ (search rules) (sym c.wrong_round.ensures ∙ c.if-wrong_round.false)
    (sym c.is_impossible.ensures ∙ c.if-is_impossible.false)
    c.in-Some.ensures.first
    (search rules)
    (omega (arith, c.if-is_full.false))

pub returns-clause-new : goal.returns-clause-new
unfolding lane_of
returns-clause-new c = rw (c.added.ensures, c.in-Some.ensures.first)
