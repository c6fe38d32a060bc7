-- The wait of at most seven turns is no shorter: a computed run in which a lane with a ticket waits through exactly seven turns of other
-- lanes (document 02, item 6).
-- Assumes nothing.
use Rattle.std.specs.Prelude.{ℕ, ◌≡◌, refl, Bool, true, List, [], ◌∷◌, ◌++◌, replicate}
use Rattle.std.proofs.Common.{arith}
use Rattle.refusal.specs.Refusal.{first_of, unrefused}
use Rattle.refusal.specs.Order.{is_in, distinct}
use Rattle.protocol.specs.Record.{wrong_round}
use Rattle.dispatch.specs.Dispatcher.{lanes, round_of, index_of, lane_of, count, head, place, ticket_at, serving, opened, some_above, wrong_rounds, wrong_counts, wrong_order, impossible}
use Rattle.dispatch.specs.Turns.{is_waiting, never_served, goes_first, first_of_two, first_new, longest_ago, or_else, next_lane, unless, without, served_last, less_oldest, added}
use Rattle.dispatch.specs.Calls.{opening_conditions, adding_conditions, turn_conditions, dispatched_by, open_dispatcher, add_ticket, gives_none, gives_oldest, turn_of, turn_by, take_turn}
use Rattle.dispatch.specs.Lists.{Call, adds, turn, after, after_all, one_if, given_by, taken_out, came_out, turns, given_round, rounds_given, WaitsAtMost}
use Rattle.dispatch.specs.declared.Eight.{Eight}
use Rattle.dispatch.specs.declared.Dispatcher.{Dispatcher}
use Rattle.dispatch_claims.specs.CallsLaws.{stays-possible, possible-opened}

-- ---- the run

abbrev pub eight : Eight
eight = record { round = 12 ∷ 3 ∷ 700 ∷ 1023 ∷ 0 ∷ 41 ∷ 5 ∷ 99 ∷ [] }

-- a ticket for each round
abbrev pub one_each : List Call
one_each = adds 12 500 ∷ adds 3 501 ∷ adds 700 502 ∷ adds 1023 503 ∷ adds 0 504 ∷ adds 41 505 ∷ adds 5 506 ∷ adds 99 507 ∷ []

-- the dispatcher in which they wait
abbrev pub loaded : Dispatcher
loaded = after_all (open_dispatcher eight).dispatcher one_each

abbrev pub seven_turns : List Call
seven_turns = replicate 7 turn

-- the refusal numbers of a list of calls
abbrev number : Dispatcher → Call → ℕ
number d (adds round ticket) = (add_ticket d round ticket).number
number d turn = (take_turn d).number

abbrev numbers : Dispatcher → List Call → List ℕ
numbers d [] = []
numbers d (c ∷ cs) = number d c ∷ numbers (after d c) cs

-- a name that unfolds every definition of the run
unfolded_run : Bool
unfolding open_dispatcher opening_conditions dispatched_by first_of unrefused some_above distinct is_in opened after after_all add_ticket adding_conditions lane_of index_of round_of added count place head ticket_at impossible wrong_rounds wrong_counts wrong_order serving wrong_round is_waiting never_served goes_first first_of_two first_new longest_ago or_else next_lane unless without served_last less_oldest turn_conditions gives_none gives_oldest turn_of turn_by take_turn one_if given_by taken_out came_out turns given_round rounds_given
unfolded_run = true

opening-taken : (open_dispatcher eight).number ≡ 0
unfolding unfolded_run
opening-taken = refl

-- no call of it is refused
pub none_refused :
    ((open_dispatcher eight).number ≡ 0)
    × (numbers (open_dispatcher eight).dispatcher one_each ≡ replicate 8 0)
    × (numbers loaded (turn ∷ seven_turns) ≡ replicate 8 0)
unfolding unfolded_run
none_refused = (opening-taken, refl, refl)

lane-waits : is_waiting loaded 3 ≡ true
unfolding unfolded_run
lane-waits = refl

not_given : came_out (round_of loaded 3) loaded seven_turns ≡ []
unfolding unfolded_run
not_given = refl

-- the lane of the highest round waits, and seven turns give out others, the lowest round first
pub waits_through_seven :
    (round_of loaded 3 ≡ 1023) × (is_waiting loaded 3 ≡ true)
    × (turns seven_turns ≡ 7) × (came_out (round_of loaded 3) loaded seven_turns ≡ [])
    × (rounds_given loaded seven_turns [] ≡ 700 ∷ 99 ∷ 41 ∷ 12 ∷ 5 ∷ 3 ∷ 0 ∷ [])
unfolding unfolded_run
waits_through_seven = (refl, lane-waits, refl, not_given, refl)

-- the eighth gives its ticket
pub eighth_gives : came_out (round_of loaded 3) loaded (seven_turns ++ (turn ∷ [])) ≡ 503 ∷ []
unfolding unfolded_run
eighth_gives = refl

-- so a bound of six would be false
pub seven_is_reached : WaitsAtMost 6 → ⊥
unfolding turns
seven_is_reached six =
    let p = possible-opened eight refl opening-taken in
    omega (arith, six loaded (stays-possible (open_dispatcher eight).dispatcher (rw p.0 p.1) one_each) 3 (omega arith) lane-waits seven_turns not_given)
