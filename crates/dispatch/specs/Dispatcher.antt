-- A dispatcher: its lanes, the tickets that wait in them, its order of serving, and impossible dispatchers (document 02, item 6).
-- Assumes nothing.
use Rattle.std.specs.Prelude.{ℕ, zero, suc, ◌+◌, ◌*◌, ◌%◌, ◌≡◌, Bool, false, cond, not, ◌||◌, List, [], ◌∷◌, ◌++◌, ltb, eqb, length, take, get_or, replicate}
use Rattle.refusal.specs.Order.{distinct}
use Rattle.protocol.specs.Record.{last_round}
use Rattle.dispatch.specs.declared.Dispatcher.{Dispatcher}

-- ---- lanes and tickets

-- "A dispatcher takes eight different rounds at opening": a lane for each, numbered from 0
abbrev pub lanes : ℕ
lanes = 8

-- "in each lane, up to 16 message tickets": the places of a lane
abbrev pub places : ℕ
places = 16

-- the round of a lane
unfoldable pub round_of : Dispatcher → ℕ → ℕ
round_of d l = get_or d.rounds l 0

-- where a number stands first in a list; the list's length where it doesn't
unfoldable pub index_of : ℕ → List ℕ → ℕ
index_of x [] = 0
index_of x (y ∷ ys) = cond (eqb y x) 0 (suc (index_of x ys))

-- the lane of a round
unfoldable pub lane_of : Dispatcher → ℕ → ℕ
lane_of d round = index_of round d.rounds

-- how many tickets wait in a lane
unfoldable pub count : Dispatcher → ℕ → ℕ
count d l = get_or d.counts l 0

-- the place of a lane's oldest ticket, among its 16
unfoldable pub head : Dispatcher → ℕ → ℕ
head d l = get_or d.heads l 0 % places

-- "A place given out is used again.": where the ticket i places after the oldest stands; after a lane's last place comes its first
unfoldable pub place : Dispatcher → ℕ → ℕ → ℕ
place d l i = places * l + (head d l + i) % places

-- the ticket that stands there
unfoldable pub ticket_at : Dispatcher → ℕ → ℕ → ℕ
ticket_at d l i = get_or d.tickets (place d l i) 0

-- the first n tickets of a lane, oldest first
unfoldable pub tickets_of : Dispatcher → ℕ → ℕ → List ℕ
tickets_of d l zero = []
tickets_of d l (suc n) = tickets_of d l n ++ (ticket_at d l n ∷ [])

-- the tickets that wait in a lane, oldest first
unfoldable pub waiting : Dispatcher → ℕ → List ℕ
waiting d l = tickets_of d l (count d l)

-- ---- the order of serving

-- the lanes served so far, longest ago first
unfoldable pub serving : Dispatcher → List ℕ
serving d = take d.served d.order

-- ---- an opened dispatcher

-- eight rounds, and nothing else set: no ticket waits, no lane was served
unfoldable pub opened : List ℕ → Dispatcher
opened rounds = record {
  rounds = rounds;
  counts = replicate lanes 0;
  heads = replicate lanes 0;
  served = 0;
  order = replicate lanes 0;
  tickets = replicate (places * lanes) 0;
}

-- "a refused opening gives one of zeros"
unfoldable pub zeros : Dispatcher
zeros = opened (replicate lanes 0)

-- ---- impossible dispatchers: "A dispatcher .. is impossible (4)"

-- a number of the list is above the most that is allowed
unfoldable pub some_above : ℕ → List ℕ → Bool
some_above most [] = false
some_above most (x ∷ xs) = ltb most x || some_above most xs

-- "whose rounds aren't eight different ones up to 1,023"
unfoldable pub wrong_rounds : Dispatcher → Bool
wrong_rounds d = some_above last_round d.rounds || not (distinct d.rounds)

-- "that counts more than 16 tickets in a lane"
unfoldable pub wrong_counts : Dispatcher → Bool
wrong_counts d = some_above places d.counts

-- the highest number of a lane
abbrev pub last_lane : ℕ
last_lane = 7

-- "or whose order of serving names a lane twice or one outside the eight"; an order of more than eight can't but do so
unfoldable pub wrong_order : Dispatcher → Bool
wrong_order d = ltb lanes d.served || some_above last_lane (serving d) || not (distinct (serving d))

-- any of these, and nothing else
unfoldable pub impossible : Dispatcher → Bool
impossible d = wrong_rounds d || wrong_counts d || wrong_order d

-- the arrays of a dispatcher have their lengths, as those of every one that a call is given
pub record Sized (d : Dispatcher) : Type 0 where
  pub rounds : length d.rounds ≡ lanes
  pub counts : length d.counts ≡ lanes
  pub heads : length d.heads ≡ lanes
  pub order : length d.order ≡ lanes
  pub tickets : length d.tickets ≡ places * lanes
