-- Laws of the calls, one by one: what a possible dispatcher holds, what an add and a turn give back, that it is possible again, and what a
-- refused call gives back.
-- Assumes nothing.
use Rattle.std.specs.Prelude.{ℕ, zero, suc, ◌+◌, ◌-◌, ◌%◌, ◌≤◌, ◌<◌, ◌≡◌, refl, true, false, not, ◌&&◌, ◌||◌, List, [], ◌∷◌, ◌≢◌, ltb, eqb, length, drop}
use Rattle.std.proofs.Common.{sym, ap, ◌∙◌, true≢false, arith, length-append, length-drop, length-set, ltb-true, ltb-false, eqb-true, lt-ltb, le-ltb}
use Rattle.std.proofs.Math.Seq.{take-append_seam}
use Rattle.std.proofs.lemmas.Bool.{eqb-false, not-false}
use Rattle.refusal.specs.Refusal.{first_of, unrefused}
use Rattle.refusal.specs.RefusalLaws.{both_true, both_false, refused-old, first_of-zero}
use Rattle.refusal.specs.Order.{is_in, distinct}
use Rattle.protocol.specs.Record.{last_round, wrong_round}
use Rattle.dispatch.specs.Dispatcher.{lanes, places, last_lane, round_of, lane_of, count, head, place, serving, opened, zeros, some_above, wrong_rounds, wrong_counts, wrong_order, impossible, Sized}
use Rattle.dispatch.specs.Turns.{is_waiting, never_served, goes_first, first_of_two, first_new, longest_ago, or_else, next_lane, served_last, less_oldest, added}
use Rattle.dispatch.specs.Calls.{DISPATCHER, LANE, LANE_TWICE, FULL, opening_conditions, adding_conditions, turn_conditions, dispatched_by, open_dispatcher, add_ticket, gives_none, gives_oldest, turn_of, turn_by, take_turn}
use Rattle.dispatch.specs.Lists.{Call, adds, turn, after, after_all, Possible, StaysPossible}
use Rattle.dispatch_claims.specs.ListLaws.{by, not_above, same_place, index_of-found, some_above-set, served_last-distinct, served_last_not_above, length-served_last}
use Rattle.dispatch.specs.declared.Eight.{Eight}
use Rattle.dispatch.specs.declared.Dispatcher.{Dispatcher}
use Rattle.dispatch.specs.declared.Turn.{Turn}

-- ---- what a possible dispatcher holds

pub record Holds (d : Dispatcher) : Type 0 where
  pub dated : some_above last_round d.rounds ≡ false
  pub different : distinct d.rounds ≡ true
  pub counted : some_above places d.counts ≡ false
  pub few : d.served ≤ lanes
  pub within : some_above last_lane (serving d) ≡ false
  pub once : distinct (serving d) ≡ true

pub holds : (d : Dispatcher) → impossible d ≡ false → Holds d
unfolding impossible wrong_rounds wrong_counts wrong_order
holds d e =
    let all = both_false (wrong_rounds d || wrong_counts d) (wrong_order d) e in
    let first = both_false (wrong_rounds d) (wrong_counts d) all.0 in
    let rounds = both_false (some_above last_round d.rounds) (not (distinct d.rounds)) first.0 in
    let last = both_false (ltb lanes d.served || some_above last_lane (serving d)) (not (distinct (serving d))) all.1 in
    let order = both_false (ltb lanes d.served) (some_above last_lane (serving d)) last.0 in
    record {
      dated = rounds.0;
      different = not-false (distinct d.rounds) rounds.1;
      counted = first.1;
      few = ltb-false lanes d.served order.0;
      within = order.1;
      once = not-false (distinct (serving d)) last.1;
    }

-- and the other way
pub is_possible_lem : (d : Dispatcher) → Sized d → Holds d → Possible d
unfolding impossible wrong_rounds wrong_counts wrong_order
is_possible_lem d s h =
    record { sized = s; possible = rw (h.dated, h.different, h.counted, le-ltb lanes d.served h.few, h.within, h.once) }

-- two lanes of one round are one lane
pub one_lane : (d : Dispatcher) → Possible d → (l m : ℕ) → l < lanes → m < lanes → round_of d l ≡ round_of d m → l ≡ m
unfolding round_of
one_lane d p l m h k e = same_place d.rounds (holds d p.possible).different l m (omega (arith, p.sized)) (omega (arith, p.sized)) e

-- ---- turns

pub turn_idle : (d : Dispatcher) → Possible d → lanes ≤ next_lane d → take_turn d ≡ gives_none 0 d
unfolding take_turn turn_by turn_conditions turn_of first_of unrefused
turn_idle d p h = rw (p.possible, le-ltb (next_lane d) lanes h)

pub turn_served : (d : Dispatcher) → Possible d → next_lane d < lanes → take_turn d ≡ gives_oldest d (next_lane d)
unfolding take_turn turn_by turn_conditions turn_of first_of unrefused
turn_served d p h = rw (p.possible, lt-ltb (next_lane d) lanes h)

-- and the dispatcher that they give back
pub after_idle : (d : Dispatcher) → Possible d → lanes ≤ next_lane d → after d turn ≡ d
unfolding after gives_none
after_idle d p h = ap (λ (t : Turn). t.dispatcher) (turn_idle d p h)

pub after_served : (d : Dispatcher) → Possible d → next_lane d < lanes → after d turn ≡ less_oldest d (next_lane d)
unfolding after gives_oldest
after_served d p h = ap (λ (t : Turn). t.dispatcher) (turn_served d p h)

pub serving-less_oldest : (d : Dispatcher) (l : ℕ) → serving (less_oldest d l) ≡ served_last l (serving d)
unfolding serving less_oldest
serving-less_oldest d l = take-append_seam (served_last l (serving d)) (drop (length (served_last l (serving d))) d.order)

first_waits : (d : Dispatcher) (n : ℕ) → first_new d n < lanes → is_waiting d (first_new d n) ≡ true
unfolding first_new first_of_two
first_waits d zero h = absurd (omega arith)
first_waits d (suc n) h =
    let test = is_waiting d n && never_served d n && goes_first d n (first_new d n) in
    by test
    (λ e. rw e (both_true (is_waiting d n) (never_served d n) (both_true (is_waiting d n && never_served d n) (goes_first d n (first_new d n)) e).0).0)
    (λ e. rw e (first_waits d n (rw e at h)))

longest-waits : (d : Dispatcher) (order : List ℕ) → longest_ago d order < lanes → is_waiting d (longest_ago d order) ≡ true
unfolding longest_ago
longest-waits d [] h = absurd (omega arith)
longest-waits d (l ∷ order) h = by (is_waiting d l) (λ e. rw (e, e)) (λ e. rw e (longest-waits d order (rw e at h)))

-- the lane whose turn it is waits
pub next_waits : (d : Dispatcher) → next_lane d < lanes → is_waiting d (next_lane d) ≡ true
unfolding next_lane or_else
next_waits d h =
    by (ltb (first_new d lanes) lanes)
    (λ e. rw e (first_waits d lanes (ltb-true (first_new d lanes) lanes e)))
    (λ e. rw e (longest-waits d (serving d) (rw e at h)))

-- ---- adds

-- the lane of an add that isn't refused
pub record Accepted (d : Dispatcher) (round : ℕ) : Type 0 where
  pub found : lane_of d round < lanes
  pub its : round_of d (lane_of d round) ≡ round
  pub room : count d (lane_of d round) < places

pub add-refused : (d : Dispatcher) (round ticket : ℕ) → (add_ticket d round ticket).number ≢ 0 → (add_ticket d round ticket).dispatcher ≡ d
unfolding add_ticket dispatched_by
add-refused d round ticket h = refused-old (first_of (adding_conditions d round)) (added d (lane_of d round) ticket) d h

pub add-accepted : (d : Dispatcher) → Possible d → (round ticket : ℕ) → (add_ticket d round ticket).number ≡ 0
    → ((add_ticket d round ticket).dispatcher ≡ added d (lane_of d round) ticket) × Accepted d round
unfolding add_ticket dispatched_by adding_conditions unrefused lane_of round_of count
add-accepted d p round ticket e =
    let a = first_of-zero 2 (wrong_round round) (DISPATCHER d ∷ LANE d round ∷ FULL d round ∷ []) e in
    let b = first_of-zero 3 (impossible d) (LANE d round ∷ FULL d round ∷ []) a.1 in
    let c = first_of-zero 17 (not (is_in round d.rounds)) (FULL d round ∷ []) b.1 in
    let f = first_of-zero 18 (eqb (count d (lane_of d round)) places) [] c.1 in
    let found = index_of-found round d.rounds (not-false (is_in round d.rounds) c.0) in
    let few = not_above places d.counts (holds d p.possible).counted (lane_of d round) in
    let unfull : count d (lane_of d round) ≢ places = eqb-false (count d (lane_of d round)) places f.0 in
    (rw e, record { found = omega (arith, found.0, p.sized); its = found.1; room = omega arith })

-- ---- possible again

pub possible-added : (d : Dispatcher) → Possible d → (l ticket : ℕ) → l < lanes → count d l < places → Possible (added d l ticket)
unfolding added serving
possible-added d p l ticket h r =
    let old = holds d p.possible in
    is_possible_lem (added d l ticket)
    (record {
      rounds = p.sized.rounds;
      counts = length-set d.counts l (count d l + 1) ∙ p.sized.counts;
      heads = p.sized.heads;
      order = p.sized.order;
      tickets = length-set d.tickets (place d l (count d l)) ticket ∙ p.sized.tickets;
    })
    (record {
      dated = old.dated;
      different = old.different;
      counted = some_above-set places d.counts l (count d l + 1) old.counted (omega arith);
      few = old.few;
      within = old.within;
      once = old.once;
    })

pub possible_served : (d : Dispatcher) → Possible d → (l : ℕ) → l < lanes → Possible (less_oldest d l)
unfolding less_oldest count
possible_served d p l h =
    let old = holds d p.possible in
    let room : l ≤ last_lane = omega arith in
    let few = length-served_last last_lane l (serving d) room old.once old.within in
    let gone = count d l - 1 in
    is_possible_lem (less_oldest d l)
    (record {
      rounds = p.sized.rounds;
      counts = length-set d.counts l gone ∙ p.sized.counts;
      heads = length-set d.heads l ((head d l + 1) % places) ∙ p.sized.heads;
      order = simp (length-append, length-drop) (omega (arith, p.sized));
      tickets = p.sized.tickets;
    })
    (record {
      dated = old.dated;
      different = old.different;
      counted = some_above-set places d.counts l gone old.counted (omega (arith, not_above places d.counts old.counted l));
      few = few;
      within = rw (serving-less_oldest d l) (served_last_not_above last_lane l (serving d) room old.once old.within);
      once = rw (serving-less_oldest d l) (served_last-distinct last_lane l (serving d) room old.once old.within);
    })

pub possible_after : (d : Dispatcher) → Possible d → (c : Call) → Possible (after d c)
unfolding after
possible_after d p (adds round ticket) =
    by (eqb (add_ticket d round ticket).number 0)
    (λ e.
    let two = add-accepted d p round ticket (eqb-true (add_ticket d round ticket).number 0 e) in
    rw two.0 (possible-added d p (lane_of d round) ticket two.1.found two.1.room))
    (λ e. rw (add-refused d round ticket (eqb-false (add_ticket d round ticket).number 0 e)) p)
possible_after d p turn =
    by (ltb (next_lane d) lanes)
    (λ e. let h = ltb-true (next_lane d) lanes e in rw (after_served d p h) (possible_served d p (next_lane d) h))
    (λ e. rw (after_idle d p (ltb-false (next_lane d) lanes e)) p)

pub stays-possible : StaysPossible
unfolding after_all
stays-possible d p [] = p
stays-possible d p (c ∷ cs) = stays-possible (after d c) (possible_after d p c) cs

-- an opening that isn't refused gives a possible one
pub possible-opened : (eight : Eight) → length eight.round ≡ lanes → (open_dispatcher eight).number ≡ 0
    → ((open_dispatcher eight).dispatcher ≡ opened eight.round) × Possible (opened eight.round)
unfolding open_dispatcher dispatched_by opening_conditions unrefused opened serving some_above distinct
possible-opened eight s e =
    let a = first_of-zero 2 (some_above last_round eight.round) (LANE_TWICE eight.round ∷ []) e in
    let b = first_of-zero 17 (not (distinct eight.round)) [] a.1 in
    let sized : Sized (opened eight.round) = record { rounds = s; counts = refl; heads = refl; order = refl; tickets = refl } in
    let held : Holds (opened eight.round) = record {
      dated = a.0;
      different = not-false (distinct eight.round) b.0;
      counted = refl;
      few = omega arith;
      within = refl;
      once = refl;
    } in
    (rw e, is_possible_lem (opened eight.round) sized held)

-- ---- refused calls

turn-impossible : (d : Dispatcher) → impossible d ≡ true → take_turn d ≡ gives_none 4 d
unfolding take_turn turn_by turn_conditions first_of unrefused
turn-impossible d e = rw e

turn-refused : (d : Dispatcher) → (take_turn d).number ≢ 0 → take_turn d ≡ gives_none (take_turn d).number d
unfolding take_turn turn_by turn_conditions turn_of first_of unrefused gives_none gives_oldest
turn-refused d h =
    by (impossible d)
    (λ e. rw e)
    (λ e. absurd (h (rw e (by (ltb (next_lane d) lanes) (λ f. rw f) (λ f. rw f)))))

opening-refused : (eight : Eight) → (open_dispatcher eight).number ≢ 0 → (open_dispatcher eight).dispatcher ≡ zeros
unfolding open_dispatcher dispatched_by
opening-refused eight h = refused-old (first_of (opening_conditions eight.round)) (opened eight.round) zeros h

-- "a refused opening gives one of zeros, any other refusal the one it was given", and a refused turn no ticket
pub refused-unchanged :
    ((eight : Eight) → (open_dispatcher eight).number ≢ 0 → (open_dispatcher eight).dispatcher ≡ zeros)
    × ((d : Dispatcher) (round ticket : ℕ) → (add_ticket d round ticket).number ≢ 0 → (add_ticket d round ticket).dispatcher ≡ d)
    × ((d : Dispatcher) → (take_turn d).number ≢ 0 → take_turn d ≡ gives_none (take_turn d).number d)
refused-unchanged = (opening-refused, add-refused, turn-refused)

after_impossible : (d : Dispatcher) → impossible d ≡ true → (c : Call) → after d c ≡ d
unfolding after gives_none add_ticket dispatched_by adding_conditions
after_impossible d h (adds round ticket) =
    add-refused d round ticket λ e.
    let rest = (first_of-zero 2 (wrong_round round) (DISPATCHER d ∷ LANE d round ∷ FULL d round ∷ []) e).1 in
    true≢false (sym h ∙ (first_of-zero 3 (impossible d) (LANE d round ∷ FULL d round ∷ []) rest).0)
after_impossible d h turn = ap (λ (t : Turn). t.dispatcher) (turn-impossible d h)

-- an impossible dispatcher refuses every call, so it stays as it is
pub impossible_for_ever : (d : Dispatcher) → impossible d ≡ true → (cs : List Call) → after_all d cs ≡ d
unfolding after_all
impossible_for_ever d h [] = refl
impossible_for_ever d h (c ∷ cs) = rw (after_impossible d h c) (impossible_for_ever d h cs)
