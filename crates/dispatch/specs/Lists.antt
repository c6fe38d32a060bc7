-- Lists of calls on one dispatcher, and what is promised of them (document 02, item 6): "Where each call gets the dispatcher that the one
-- before it gave back". Refused calls may stand among them.
-- Assumes nothing.
use Rattle.std.specs.Prelude.{ℕ, zero, suc, ◌+◌, ◌≤◌, ◌<◌, ◌≡◌, Bool, true, false, cond, ◌&&◌, List, [], ◌∷◌, ◌++◌, eqb, length}
use Rattle.dispatch.specs.Dispatcher.{lanes, round_of, waiting, impossible, Sized}
use Rattle.dispatch.specs.Turns.{is_waiting}
use Rattle.dispatch.specs.Calls.{open_dispatcher, add_ticket, take_turn}
use Rattle.dispatch.specs.declared.Eight.{Eight}
use Rattle.dispatch.specs.declared.Dispatcher.{Dispatcher}
use Rattle.dispatch.specs.declared.Turn.{Turn}

-- ---- lists of calls

-- a ticket added, by its round; or a turn
pub data Call : Type 0 where
  adds : ℕ → ℕ → Call
  turn : Call

-- the dispatcher that a call gives back
unfoldable pub after : Dispatcher → Call → Dispatcher
after d (adds round ticket) = (add_ticket d round ticket).dispatcher
after d turn = (take_turn d).dispatcher

-- the one that the last call of a list gives back
unfoldable pub after_all : Dispatcher → List Call → Dispatcher
after_all d [] = d
after_all d (c ∷ cs) = after_all (after d c) cs

-- ---- tickets that go in and come out

-- a ticket where something is so, else none
unfoldable pub one_if : Bool → ℕ → List ℕ
one_if b ticket = cond b (ticket ∷ []) []

-- the ticket that a call puts into the lane of a round: that of an add for this round which isn't refused
unfoldable pub put_in : ℕ → Dispatcher → Call → List ℕ
put_in r d (adds round ticket) = one_if (eqb round r && eqb (add_ticket d round ticket).number 0) ticket
put_in r d turn = []

-- the ticket that a turn gives out for a round
unfoldable pub given_by : ℕ → Turn → List ℕ
given_by r t = one_if (eqb t.round r && t.given) t.ticket

unfoldable pub taken_out : ℕ → Dispatcher → Call → List ℕ
taken_out r d (adds round ticket) = []
taken_out r d turn = given_by r (take_turn d)

-- over a list of calls, in their order
unfoldable pub went_in : ℕ → Dispatcher → List Call → List ℕ
went_in r d [] = []
went_in r d (c ∷ cs) = put_in r d c ++ went_in r (after d c) cs

unfoldable pub came_out : ℕ → Dispatcher → List Call → List ℕ
came_out r d [] = []
came_out r d (c ∷ cs) = taken_out r d c ++ came_out r (after d c) cs

-- how many turns a list has
unfoldable pub turns : List Call → ℕ
turns [] = 0
turns (adds round ticket ∷ cs) = turns cs
turns (turn ∷ cs) = suc (turns cs)

-- ---- a dispatcher in use: its arrays have their lengths, and it isn't impossible

pub record Possible (d : Dispatcher) : Type 0 where
  pub sized : Sized d
  pub possible : impossible d ≡ false

-- ---- what is promised

-- no dispatcher that comes out is impossible
abbrev pub StaysPossible : Type 0
StaysPossible = (d : Dispatcher) → Possible d → (cs : List Call) → Possible (after_all d cs)

-- tickets of a lane come out in the order in which they went in, none lost, none twice, none invented: those that waited and those that
-- went in are those that came out and those that wait
abbrev pub InOrder : Type 0
InOrder =
    (d : Dispatcher) → Possible d → (cs : List Call) (l : ℕ) → l < lanes
    → waiting d l ++ went_in (round_of d l) d cs ≡ came_out (round_of d l) d cs ++ waiting (after_all d cs) l

-- a lane with a ticket waits through at most n turns of other lanes: a list of calls in which the lane is given no turn has n turns at most
abbrev pub WaitsAtMost : ℕ → Type 0
WaitsAtMost n =
    (d : Dispatcher) → Possible d → (l : ℕ) → l < lanes → is_waiting d l ≡ true
    → (cs : List Call) → came_out (round_of d l) d cs ≡ [] → turns cs ≤ n

-- "a lane with a ticket waits through at most seven turns of other lanes"
abbrev pub WaitsAtMostSeven : Type 0
WaitsAtMostSeven = WaitsAtMost 7

-- ---- "served longest ago", by the turns themselves

-- the rounds given out so far, newest first, once a turn more is taken
unfoldable pub given_round : Turn → List ℕ → List ℕ
given_round t earlier = cond t.given (t.round ∷ earlier) earlier

-- and once a list of calls is made
unfoldable pub rounds_given : Dispatcher → List Call → List ℕ → List ℕ
rounds_given d [] earlier = earlier
rounds_given d (adds round ticket ∷ cs) earlier = rounds_given (after d (adds round ticket)) cs earlier
rounds_given d (turn ∷ cs) earlier = rounds_given (after d turn) cs (given_round (take_turn d) earlier)

-- how many turns that gave a ticket came after a round's last one: the more, the longer ago. "never served counts as longest": all
unfoldable pub ago : ℕ → List ℕ → ℕ
ago r [] = 0
ago r (g ∷ gs) = cond (eqb g r) 0 (suc (ago r gs))

-- the turn gives the lane out of all that wait: none was served longer ago, and among those never served none has a lower round
pub record LongestAgo (d : Dispatcher) (gs : List ℕ) (t : Turn) : Type 0 where
  pub gives : (l : ℕ) → l < lanes → is_waiting d l ≡ true → t.given ≡ true
  pub longest : (l : ℕ) → l < lanes → is_waiting d l ≡ true → ago (round_of d l) gs ≤ ago t.round gs
  pub lowest : (l : ℕ) → l < lanes → is_waiting d l ≡ true → ago (round_of d l) gs ≡ ago t.round gs → t.round ≤ round_of d l

-- from an opening, after any list of calls, a turn gives "the oldest ticket of the waiting lane served longest ago; never served counts
-- as longest, and among those the lowest round goes first"
abbrev pub ServesLongestAgo : Type 0
ServesLongestAgo =
    (eight : Eight) → length eight.round ≡ lanes → (open_dispatcher eight).number ≡ 0
    → (cs : List Call)
    → let d = after_all (open_dispatcher eight).dispatcher cs in
    LongestAgo d (rounds_given (open_dispatcher eight).dispatcher cs []) (take_turn d)
