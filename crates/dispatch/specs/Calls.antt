-- The dispatcher's calls, each as a function of its arguments, with their refusals (document 02, item 6): "18 and 19 .. come after 4, in
-- that order". "a refused opening gives one of zeros, any other refusal the one it was given".
-- Assumes nothing.
use Rattle.std.specs.Prelude.{ℕ, true, false, cond, not, List, [], ◌∷◌, ltb, eqb}
use Rattle.refusal.specs.Refusal.{first_of, unrefused}
use Rattle.refusal.specs.Order.{is_in, distinct}
use Rattle.protocol.specs.Record.{last_round}
use Rattle.protocol.specs.Refusals.{Condition, ROUND}
use Rattle.dispatch.specs.Dispatcher.{lanes, places, round_of, lane_of, count, ticket_at, opened, zeros, some_above, impossible}
use Rattle.dispatch.specs.Turns.{next_lane, less_oldest, added}
use Rattle.dispatch.specs.declared.Eight.{Eight}
use Rattle.dispatch.specs.declared.Dispatcher.{Dispatcher}
use Rattle.dispatch.specs.declared.Dispatched.{Dispatched}
use Rattle.dispatch.specs.declared.Turn.{Turn}

-- ---- the rows of the table

-- 3, round: "a round or leaf above 1,023": any of the eight
abbrev pub ROUNDS : List ℕ → Condition
ROUNDS rounds = (3, some_above last_round rounds)

-- 4: "is impossible (4)"
abbrev pub DISPATCHER : Dispatcher → Condition
DISPATCHER d = (4, impossible d)

-- 18, lane: "when the round isn't among the eight or two of the eight are equal at opening"
abbrev pub LANE : Dispatcher → ℕ → Condition
LANE d round = (18, not (is_in round d.rounds))

abbrev pub LANE_TWICE : List ℕ → Condition
LANE_TWICE rounds = (18, not (distinct rounds))

-- 19, full: "when 16 tickets wait in that lane"
abbrev pub FULL : Dispatcher → ℕ → Condition
FULL d round = (19, eqb (count d (lane_of d round)) places)

-- ---- the rows of each call

unfoldable pub opening_conditions : List ℕ → List Condition
opening_conditions rounds = ROUNDS rounds ∷ LANE_TWICE rounds ∷ []

unfoldable pub adding_conditions : Dispatcher → ℕ → List Condition
adding_conditions d round = ROUND round ∷ DISPATCHER d ∷ LANE d round ∷ FULL d round ∷ []

unfoldable pub turn_conditions : Dispatcher → List Condition
turn_conditions d = DISPATCHER d ∷ []

-- ---- the calls

-- answer of opening and of adding, by the refusal number
unfoldable pub dispatched_by : ℕ → Dispatcher → Dispatcher → Dispatched
dispatched_by refusal new old = record { number = refusal; dispatcher = unrefused refusal new old }

-- "A dispatcher takes eight different rounds at opening"
unfoldable pub open_dispatcher : Eight → Dispatched
open_dispatcher eight = dispatched_by (first_of (opening_conditions eight.round)) (opened eight.round) zeros

-- "and, in each lane, up to 16 message tickets": dispatcher, round, ticket
unfoldable pub add_ticket : Dispatcher → ℕ → ℕ → Dispatched
add_ticket d round ticket = dispatched_by (first_of (adding_conditions d round)) (added d (lane_of d round) ticket) d

-- a turn that gives no ticket: refused, or "A turn with no ticket waiting gives none and changes nothing."
unfoldable pub gives_none : ℕ → Dispatcher → Turn
gives_none refusal d = record { number = refusal; given = false; round = 0; ticket = 0; dispatcher = d }

-- "Each turn it gives out the oldest ticket" of a lane
unfoldable pub gives_oldest : Dispatcher → ℕ → Turn
gives_oldest d l = record { number = 0; given = true; round = round_of d l; ticket = ticket_at d l 0; dispatcher = less_oldest d l }

-- a turn that isn't refused, by the lane whose turn it is
unfoldable pub turn_of : Dispatcher → ℕ → Turn
turn_of d l = cond (ltb l lanes) (gives_oldest d l) (gives_none 0 d)

-- a turn, by the refusal number
unfoldable pub turn_by : ℕ → Dispatcher → Turn
turn_by refusal d = unrefused refusal (turn_of d (next_lane d)) (gives_none refusal d)

unfoldable pub take_turn : Dispatcher → Turn
take_turn d = turn_by (first_of (turn_conditions d)) d
