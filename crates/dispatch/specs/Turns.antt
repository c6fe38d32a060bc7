-- Whose turn it is, and what a ticket added or given out changes (document 02, item 6).
-- Assumes nothing.
use Rattle.std.specs.Prelude.{ℕ, zero, suc, ◌+◌, ◌-◌, ◌%◌, Bool, cond, not, ◌&&◌, ◌||◌, List, [], ◌∷◌, ◌++◌, leb, ltb, eqb, length, drop, set}
use Rattle.refusal.specs.Order.{is_in}
use Rattle.dispatch.specs.Dispatcher.{lanes, places, round_of, count, head, place, serving}
use Rattle.dispatch.specs.declared.Dispatcher.{Dispatcher}

-- ---- whose turn it is: "Each turn it gives out the oldest ticket of the waiting lane served longest ago; never served counts as longest,
-- and among those the lowest round goes first."

-- a ticket waits in the lane
unfoldable pub is_waiting : Dispatcher → ℕ → Bool
is_waiting d l = not (eqb (count d l) 0)

-- the lane was never served: the order of serving doesn't name it
unfoldable pub never_served : Dispatcher → ℕ → Bool
never_served d l = not (is_in l (serving d))

-- "among those the lowest round goes first": lane l goes before lane m, and before none (8)
unfoldable pub goes_first : Dispatcher → ℕ → ℕ → Bool
goes_first d l m = leb lanes m || ltb (round_of d l) (round_of d m)

-- lane l where it waits, was never served and goes before the one found so far, else that one
unfoldable pub first_of_two : Dispatcher → ℕ → ℕ → ℕ
first_of_two d l found = cond (is_waiting d l && never_served d l && goes_first d l found) l found

-- of the lanes below n that wait and were never served, the one that goes first; 8 where there is none
unfoldable pub first_new : Dispatcher → ℕ → ℕ
first_new d zero = lanes
first_new d (suc n) = first_of_two d n (first_new d n)

-- "the waiting lane served longest ago": of some lanes in the order of serving the first that waits; 8 where none does
unfoldable pub longest_ago : Dispatcher → List ℕ → ℕ
longest_ago d [] = lanes
longest_ago d (l ∷ rest) = cond (is_waiting d l) l (longest_ago d rest)

-- a lane where there is one, else another
unfoldable pub or_else : ℕ → ℕ → ℕ
or_else l other = cond (ltb l lanes) l other

-- "never served counts as longest": the lane whose turn it is; 8 where no ticket waits
unfoldable pub next_lane : Dispatcher → ℕ
next_lane d = or_else (first_new d lanes) (longest_ago d (serving d))

-- ---- what changes

-- y before some numbers, unless it is x
unfoldable pub unless : ℕ → ℕ → List ℕ → List ℕ
unless x y ys = cond (eqb y x) ys (y ∷ ys)

-- the numbers of a list other than x
unfoldable pub without : ℕ → List ℕ → List ℕ
without x [] = []
without x (y ∷ ys) = unless x y (without x ys)

-- the order of serving once a lane is served: all others as they were, then that lane
unfoldable pub served_last : ℕ → List ℕ → List ℕ
served_last l order = without l order ++ (l ∷ [])

-- the dispatcher with this order of serving; entries beyond it keep what they held
abbrev pub with_serving : Dispatcher → List ℕ → Dispatcher
with_serving d order = record {
  rounds = d.rounds;
  counts = d.counts;
  heads = d.heads;
  served = length order;
  order = order ++ drop (length order) d.order;
  tickets = d.tickets;
}

-- the dispatcher with a lane's count and head set
abbrev pub with_lane : Dispatcher → ℕ → ℕ → ℕ → Dispatcher
with_lane d l count head = record {
  rounds = d.rounds;
  counts = set d.counts l count;
  heads = set d.heads l head;
  served = d.served;
  order = d.order;
  tickets = d.tickets;
}

-- a lane is served: its oldest ticket is gone, the next place is its head, and it is the one served last
unfoldable pub less_oldest : Dispatcher → ℕ → Dispatcher
less_oldest d l = with_serving (with_lane d l (count d l - 1) ((head d l + 1) % places)) (served_last l (serving d))

-- a ticket is added to a lane, after those that wait there
unfoldable pub added : Dispatcher → ℕ → ℕ → Dispatcher
added d l ticket = record {
  rounds = d.rounds;
  counts = set d.counts l (count d l + 1);
  heads = d.heads;
  served = d.served;
  order = d.order;
  tickets = set d.tickets (place d l (count d l)) ticket;
}
