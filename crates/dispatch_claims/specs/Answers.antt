-- The number that each of the dispatcher's calls answers: the first in the table's order whose condition holds, and so the lowest; and what
-- isn't refused.
-- "They come after 4, in that order." (document 02, item 6)
-- Assumes nothing.
use Rattle.std.specs.Prelude.{ℕ, zero, suc, ◌<◌, ◌≡◌, refl, Bool, true, false, cond, List, ltb}
use Rattle.std.proofs.Common.{arith}
use borrow.Author.Tests.{le-ltb, ne_eqb}
use Rattle.refusal.specs.Refusal.{first_of, unrefused, numbers}
use Rattle.refusal.specs.Order.{distinct, follows}
use Rattle.refusal.specs.Lowest.{rise_from, rise, Lowest}
use Rattle.refusal.specs.LowestLaws.{first_of-lowest}
use Rattle.protocol.specs.Record.{last_round, wrong_round}
use Rattle.protocol.specs.Refusals.{Condition}
use Rattle.protocol.specs.Order.{order, FirstInOrder, finds_first}
use Rattle.dispatch.specs.Dispatcher.{lanes, places, round_of, lane_of, count, some_above}
use Rattle.dispatch.specs.Turns.{next_lane}
use Rattle.dispatch.specs.Calls.{opening_conditions, adding_conditions, turn_conditions, dispatched_by, open_dispatcher, add_ticket, gives_none, gives_oldest, turn_of, turn_by, take_turn}
use Rattle.dispatch.specs.Lists.{Possible}
use Rattle.dispatch.specs.declared.Eight.{Eight}
use Rattle.dispatch.specs.declared.Dispatcher.{Dispatcher}
use Rattle.dispatch_claims.specs.ListLaws.{is_in_get_d, index_of-found, not_above}
use Rattle.dispatch_claims.specs.CallsLaws.{holds, one_lane}

-- a turn that isn't refused answers 0, whether or not a ticket is given
turn-number : (refusal : ℕ) (d : Dispatcher) → (turn_by refusal d).number ≡ refusal
unfolding turn_by unrefused turn_of gives_none gives_oldest
turn-number zero d = go (ltb (next_lane d) lanes)
  where
    go : (b : Bool) → (cond b (gives_oldest d (next_lane d)) (gives_none 0 d)).number ≡ 0
    go true = refl
    go false = refl
turn-number (suc n) d = refl

module _ (eight : Eight) (d : Dispatcher) (round ticket : ℕ) where
  -- each call answers the number with this property
  pub record Answers (Is : ℕ → List Condition → Type 0) : Type 0 where
    pub opening : Is (open_dispatcher eight).number (opening_conditions eight.round)
    pub adding : Is (add_ticket d round ticket).number (adding_conditions d round)
    pub turn : Is (take_turn d).number (turn_conditions d)

  pub answers : Answers FirstInOrder
  unfolding open_dispatcher add_ticket dispatched_by take_turn opening_conditions adding_conditions turn_conditions follows order numbers
  answers = record {
    opening = finds_first (opening_conditions eight.round) refl;
    adding = finds_first (adding_conditions d round) refl;
    turn = rw (turn-number (first_of (turn_conditions d)) d) (finds_first (turn_conditions d) refl);
  }

  pub answers-lowest : Answers Lowest
  unfolding open_dispatcher add_ticket dispatched_by take_turn opening_conditions adding_conditions turn_conditions rise rise_from numbers
  answers-lowest = record {
    opening = first_of-lowest (opening_conditions eight.round) refl;
    adding = first_of-lowest (adding_conditions d round) refl;
    turn = rw (turn-number (first_of (turn_conditions d)) d) (first_of-lowest (turn_conditions d) refl);
  }

-- ---- calls that aren't refused

-- eight different rounds up to 1,023
pub opening_not_refused : (eight : Eight) → some_above last_round eight.round ≡ false → distinct eight.round ≡ true → (open_dispatcher eight).number ≡ 0
unfolding open_dispatcher dispatched_by opening_conditions first_of
opening_not_refused eight dated different = rw (dated, different)

module _ (d : Dispatcher) (p : Possible d) where
  -- a ticket for a lane in which fewer than 16 wait
  pub adding_not_refused : (l ticket : ℕ) → l < lanes → count d l < places → (add_ticket d (round_of d l) ticket).number ≡ 0
  unfolding add_ticket dispatched_by adding_conditions first_of wrong_round round_of lane_of
  adding_not_refused l ticket h room =
      let held = holds d p.possible in
      let among = is_in_get_d d.rounds l (omega (arith, p.sized)) in
      let found = index_of-found (round_of d l) d.rounds among in
      let lane = one_lane d p (lane_of d (round_of d l)) l (omega (arith, found.0, p.sized)) h found.1 in
      let dated = le-ltb last_round (round_of d l) (not_above last_round d.rounds held.dated l) in
      rw (dated, p.possible, among, lane, ne_eqb (count d l) places (omega arith))

  -- any turn
  pub turn_not_refused : (take_turn d).number ≡ 0
  unfolding take_turn turn_conditions first_of
  turn_not_refused = rw (turn-number (first_of (turn_conditions d)) d, p.possible)
