-- Laws of the tickets that wait in a lane: what a ticket added and a lane served change there, and that other lanes keep theirs.
-- Assumes nothing.
use Prim.Native.Nat.{ℕ, zero, suc, ◌+◌, ◌-◌, ◌*◌, ◌%◌, ◌<◌}
use Rattle.std.specs.Prelude.{◌≡◌, refl, true, [], ◌∷◌, ◌++◌, ◌≢◌, eqb, length}
use Rattle.std.proofs.Math.Path.{ap}
use Rattle.std.proofs.Common.{◌∙◌, length-append}
use native.Mathlib.Omega.{arith}
use Rattle.std.proofs.Math.Numerals.{add-one}
use Rattle.std.proofs.Math.Seq.{get_or-set_same, get_or-set_other}
use borrow.Author.Tests.{eqb-false, not-true}
use Rattle.dispatch.specs.Dispatcher.{lanes, places, count, head, place, ticket_at, tickets_of, waiting}
use Rattle.dispatch.specs.Turns.{is_waiting, less_oldest, added}
use Rattle.dispatch.specs.Lists.{Possible}
use Rattle.dispatch.specs.declared.Dispatcher.{Dispatcher}

-- ---- the first tickets of a lane

pub length-tickets_of : (d : Dispatcher) (l n : ℕ) → length (tickets_of d l n) ≡ n
unfolding tickets_of
length-tickets_of d l zero = refl
length-tickets_of d l (suc n) = simp length-append (omega (arith, length-tickets_of d l n))

-- they are the same in two dispatchers that hold the same at each place
same_tickets : (d e : Dispatcher) (l n : ℕ) → ((i : ℕ) → i < n → ticket_at d l i ≡ ticket_at e l i) → tickets_of d l n ≡ tickets_of e l n
unfolding tickets_of
same_tickets d e l zero h = refl
same_tickets d e l (suc n) h = rw (same_tickets d e l n (λ i k. h i (omega arith)), h n (omega arith))

same_waiting : (d e : Dispatcher) (l : ℕ) → count d l ≡ count e l → ((i : ℕ) → i < count d l → ticket_at d l i ≡ ticket_at e l i) → waiting d l ≡ waiting e l
unfolding waiting
same_waiting d e l c h = same_tickets d e l (count d l) h ∙ rw c

-- where each of one stands a place later in the other, that has its oldest before them
one_later : (d e : Dispatcher) (l n : ℕ) → ((i : ℕ) → ticket_at d l (suc i) ≡ ticket_at e l i) → tickets_of d l (suc n) ≡ ticket_at d l 0 ∷ tickets_of e l n
unfolding tickets_of
one_later d e l zero h = refl
one_later d e l (suc n) h = rw (one_later d e l n h, h n)

-- ---- places

within-tickets : (d : Dispatcher) (l i : ℕ) → l < lanes → place d l i < places * lanes
unfolding place
within-tickets d l i h = omega arith

other_place : (d : Dispatcher) (l i j : ℕ) → i < j → j < places → place d l i ≢ place d l j
unfolding place
other_place d l i j h k = omega arith

other-lane : (d : Dispatcher) (l m i j : ℕ) → l ≢ m → place d l i ≢ place d m j
unfolding place
other-lane d l m i j h = omega arith

-- ---- a ticket added

module _ (d : Dispatcher) (p : Possible d) (m ticket : ℕ) where
  at_added : m < lanes → ticket_at (added d m ticket) m (count d m) ≡ ticket
  unfolding ticket_at place head added
  at_added h = get_or-set_same d.tickets (place d m (count d m)) ticket 0 (omega (arith, p.sized, within-tickets d m (count d m) h))

  at_elsewhere : (l i : ℕ) → place d l i ≢ place d m (count d m) → ticket_at (added d m ticket) l i ≡ ticket_at d l i
  unfolding ticket_at place head added
  at_elsewhere l i h = get_or-set_other d.tickets (place d m (count d m)) (place d l i) ticket 0 h

  count-added : m < lanes → count (added d m ticket) m ≡ suc (count d m)
  unfolding count added
  count-added h = get_or-set_same d.counts m (count d m + 1) 0 (omega (arith, p.sized)) ∙ add-one (count d m)

  pub waiting-added : m < lanes → count d m < places → waiting (added d m ticket) m ≡ waiting d m ++ (ticket ∷ [])
  unfolding waiting tickets_of
  waiting-added h r =
      let before = same_tickets (added d m ticket) d m (count d m) (λ i k. at_elsewhere m i (other_place d m i (count d m) k r)) in
      rw (count-added h, before, at_added h)

  pub waiting-added-other : (l : ℕ) → l ≢ m → waiting (added d m ticket) l ≡ waiting d l
  unfolding count added
  waiting-added-other l n =
      same_waiting (added d m ticket) d l (get_or-set_other d.counts m l (count d m + 1) 0 n)
      (λ i k. at_elsewhere l i (other-lane d l m i (count d m) n))

-- ---- a lane served

module _ (d : Dispatcher) (p : Possible d) (m : ℕ) where
  next_place : m < lanes → (i : ℕ) → place d m (suc i) ≡ place (less_oldest d m) m i
  unfolding place head less_oldest
  next_place h i = rw (get_or-set_same d.heads m ((head d m + 1) % places) 0 (omega (arith, p.sized))) (omega arith)

  count_served : m < lanes → count (less_oldest d m) m ≡ count d m - 1
  unfolding count less_oldest
  count_served h = get_or-set_same d.counts m (count d m - 1) 0 (omega (arith, p.sized))

  pub waiting_served : m < lanes → is_waiting d m ≡ true → waiting d m ≡ ticket_at d m 0 ∷ waiting (less_oldest d m) m
  unfolding waiting is_waiting ticket_at less_oldest
  waiting_served h w =
      let some : count d m ≢ 0 = eqb-false (count d m) 0 (not-true (eqb (count d m) 0) w) in
      let all : count d m ≡ suc (count d m - 1) = omega arith in
      ap (tickets_of d m) all
      ∙ one_later d (less_oldest d m) m (count d m - 1) (λ i. rw (next_place h i))
      ∙ rw (count_served h)

  pub waiting_served_other : (l : ℕ) → l ≢ m → waiting (less_oldest d m) l ≡ waiting d l
  unfolding count ticket_at place head less_oldest
  waiting_served_other l n =
      same_waiting (less_oldest d m) d l (get_or-set_other d.counts m l (count d m - 1) 0 n)
      (λ i k. rw (get_or-set_other d.heads m l ((head d m + 1) % places) 0 n))
