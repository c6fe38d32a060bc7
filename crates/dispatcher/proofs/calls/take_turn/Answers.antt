use Rattle.std.proofs.Common.{◌∙◌, sym, lt-ltb}
use Rattle.refusal.specs.Refusal.{first_of, unrefused}
use Rattle.dispatch.specs.Calls.{turn_conditions, turn_of, turn_by, take_turn}
use Rattle.dispatch_claims.specs.CallsLaws.{next_waits}
use Rattle.dispatcher.proofs.calls.take_turn.Goals as goal

pub returns-then-is_impossible : goal.returns-then-is_impossible
unfolding take_turn turn_by turn_conditions first_of unrefused
returns-then-is_impossible c = rw (c.gives_none.ensures, sym c.is_impossible.ensures ∙ c.if-is_impossible.true)

pub gives_oldest-requires : goal.gives_oldest-requires
gives_oldest-requires c =
    let next = c.in-Some.ensures.lane in
    let within = c.in-Some.ensures.within in
    (within, rw next (next_waits _ (rw next at within)), sym c.is_impossible.ensures ∙ c.if-is_impossible.false)

pub returns-in-Some : goal.returns-in-Some
unfolding take_turn turn_by turn_conditions turn_of first_of unrefused
returns-in-Some c =
    rw (
      c.gives_oldest.ensures,
      sym c.is_impossible.ensures ∙ c.if-is_impossible.false,
      ← c.in-Some.ensures.lane,
      lt-ltb _ 8 c.in-Some.ensures.within,
    )

pub returns-in-None : goal.returns-in-None
unfolding take_turn turn_by turn_conditions turn_of first_of unrefused
returns-in-None c =
    rw (c.gives_none-in-None.ensures, sym c.is_impossible.ensures ∙ c.if-is_impossible.false, ← c.in-None.ensures.lane)
