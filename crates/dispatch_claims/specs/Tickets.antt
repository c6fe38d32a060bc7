-- Tickets of a lane come out in the order in which they went in: none is lost, none comes twice, none is invented (document 02, item 6).
-- Assumes nothing.
use Rattle.std.specs.Prelude.{ℕ, ◌≤◌, ◌<◌, ◌≡◌, Bool, true, false, ◌&&◌, ltb, eqb, length}
use Rattle.std.proofs.Math.Path.{refl, sym}
use Rattle.std.proofs.Common.{ap, ◌∙◌, arith}
use Rattle.std.proofs.Math.Bool.{true≢false}
use mathlib.Core.List.{List, [], ◌∷◌, ◌++◌, append_assoc, append-nil}
use Rattle.std.proofs.lemmas.List.{get_or-replicate}
use borrow.Author.Tests.{ltb-true, ltb-false, eqb-true, eqb-false, ne_eqb}
use Rattle.refusal.specs.Order.{is_in}
use Rattle.dispatch.specs.Dispatcher.{lanes, round_of, lane_of, count, ticket_at, tickets_of, waiting, opened}
use Rattle.dispatch.specs.Turns.{next_lane, less_oldest, added}
use Rattle.dispatch.specs.Calls.{open_dispatcher, add_ticket, gives_none, gives_oldest}
use Rattle.dispatch.specs.Lists.{Call, adds, turn, after, after_all, one_if, put_in, given_by, taken_out, went_in, came_out, Possible, InOrder}
use Rattle.dispatch.specs.declared.Eight.{Eight}
use Rattle.dispatch.specs.declared.Dispatcher.{Dispatcher}
use Rattle.dispatch_claims.specs.ListLaws.{by, is_in_get_d}
use Rattle.dispatch_claims.specs.CallsLaws.{one_lane, turn_idle, turn_served, after_idle, after_served, next_waits, add-refused, add-accepted, possible_after, possible-opened}
use Rattle.dispatch_claims.specs.TicketsLaws.{length-tickets_of, waiting-added, waiting-added-other, waiting_served, waiting_served_other}

-- the number of tickets that a dispatcher counts is that of the tickets that wait
pub counted : (d : Dispatcher) (l : ℕ) → length (waiting d l) ≡ count d l
unfolding waiting
counted d l = length-tickets_of d l (count d l)

-- ---- one call

none_of : (b : Bool) (ticket : ℕ) → one_if (b && false) ticket ≡ []
unfolding one_if
none_of true ticket = refl
none_of false ticket = refl

one_of : (b : Bool) (ticket : ℕ) → one_if (b && true) ticket ≡ one_if b ticket
one_of true ticket = refl
one_of false ticket = refl

module _ (d : Dispatcher) (p : Possible d) where
  -- the lanes keep their rounds
  rounds_after : (c : Call) → (after d c).rounds ≡ d.rounds
  unfolding after added less_oldest
  rounds_after (adds round ticket) =
      by (eqb (add_ticket d round ticket).number 0)
      (λ e. rw (add-accepted d p round ticket (eqb-true (add_ticket d round ticket).number 0 e)).0)
      (λ e. rw (add-refused d round ticket (eqb-false (add_ticket d round ticket).number 0 e)))
  rounds_after turn =
      by (ltb (next_lane d) lanes)
      (λ e. rw (after_served d p (ltb-true (next_lane d) lanes e)))
      (λ e. rw (after_idle d p (ltb-false (next_lane d) lanes e)))

  put_refused : (r round ticket : ℕ) → eqb (add_ticket d round ticket).number 0 ≡ false → put_in r d (adds round ticket) ≡ []
  unfolding put_in
  put_refused r round ticket e = rw e (none_of (eqb round r) ticket)

  put_accepted : (r round ticket : ℕ) → eqb (add_ticket d round ticket).number 0 ≡ true → put_in r d (adds round ticket) ≡ one_if (eqb round r) ticket
  unfolding put_in
  put_accepted r round ticket e = rw e (one_of (eqb round r) ticket)

  taken_idle : (r : ℕ) → lanes ≤ next_lane d → taken_out r d turn ≡ []
  unfolding taken_out given_by gives_none
  taken_idle r h = rw (turn_idle d p h) (none_of (eqb 0 r) 0)

  taken_served : (r : ℕ) → next_lane d < lanes → taken_out r d turn ≡ one_if (eqb (round_of d (next_lane d)) r) (ticket_at d (next_lane d) 0)
  unfolding taken_out given_by gives_oldest
  taken_served r h = rw (turn_served d p h) (one_of (eqb (round_of d (next_lane d)) r) (ticket_at d (next_lane d) 0))

  module _ (l r : ℕ) (h : l < lanes) (e : round_of d l ≡ r) where
    add_in_order : (round ticket : ℕ) → waiting d l ++ put_in r d (adds round ticket) ≡ waiting (add_ticket d round ticket).dispatcher l
    unfolding one_if
    add_in_order round ticket =
        let m = lane_of d round in
        by (eqb (add_ticket d round ticket).number 0)
        (λ f.
        let (is, a) = add-accepted d p round ticket (eqb-true (add_ticket d round ticket).number 0 f) in
        rw (put_accepted r round ticket f, is)
        (by (eqb round r)
        (λ g. rw (g, one_lane d p l m h a.found (e ∙ sym (eqb-true round r g) ∙ sym a.its)) (sym (waiting-added d p m ticket a.found a.room)))
        (λ g. rw g (append-nil (waiting d l) ∙ sym (waiting-added-other d p m ticket l (λ q. eqb-false round r g (sym a.its ∙ rw (← q) e)))))))
        (λ f. rw (put_refused r round ticket f, add-refused d round ticket (eqb-false (add_ticket d round ticket).number 0 f)) (append-nil (waiting d l)))

    turn_in_order : waiting d l ≡ taken_out r d turn ++ waiting (after d turn) l
    unfolding one_if
    turn_in_order =
        let m = next_lane d in
        by (ltb m lanes)
        (λ f.
        let k = ltb-true m lanes f in
        rw (taken_served r k, after_served d p k)
        (by (eqb (round_of d m) r)
        (λ g. rw (g, one_lane d p l m h k (e ∙ sym (eqb-true (round_of d m) r g))) (waiting_served d p m k (next_waits d k)))
        (λ g. rw g (sym (waiting_served_other d p m l (λ q. eqb-false (round_of d m) r g (rw (← q) e)))))))
        (λ f. let k = ltb-false m lanes f in rw (taken_idle r k, after_idle d p k))

    one_in_order : (c : Call) → waiting d l ++ put_in r d c ≡ taken_out r d c ++ waiting (after d c) l
    unfolding put_in taken_out after
    one_in_order (adds round ticket) = add_in_order round ticket
    one_in_order turn = append-nil (waiting d l) ∙ turn_in_order

-- ---- a list of calls

in_order_of :
    (d : Dispatcher) → Possible d → (cs : List Call) (l r : ℕ) → l < lanes → round_of d l ≡ r
    → waiting d l ++ went_in r d cs ≡ came_out r d cs ++ waiting (after_all d cs) l
unfolding went_in came_out after_all round_of
in_order_of d p [] l r h e = append-nil (waiting d l)
in_order_of d p (c ∷ cs) l r h e =
    let new = after d c in
    let now = ap (λ (tickets : List ℕ). tickets ++ went_in r new cs) (one_in_order d p l r h e c) in
    let later = in_order_of new (possible_after d p c) cs l r h (rw (rounds_after d p c) e) in
    simp append_assoc ((simp append_assoc at now) ∙ rw later)

pub in_order : InOrder
in_order d p cs l h = in_order_of d p cs l (round_of d l) h refl

nothing-waits : (rounds : List ℕ) (l : ℕ) → l < lanes → waiting (opened rounds) l ≡ []
unfolding waiting count opened tickets_of
nothing-waits rounds l h = rw (get_or-replicate {A = ℕ} lanes l 0 0 h)

-- from an opening, where nothing waits: what went in is what came out and then what waits
pub from_opening :
    (eight : Eight) → length eight.round ≡ lanes → (open_dispatcher eight).number ≡ 0
    → (cs : List Call) (l : ℕ) → l < lanes
    → let d = (open_dispatcher eight).dispatcher in
    went_in (round_of d l) d cs ≡ came_out (round_of d l) d cs ++ waiting (after_all d cs) l
from_opening eight s e cs l h =
    let (is, p) = possible-opened eight s e in
    let new = opened eight.round in
    rw is (ap (λ (tickets : List ℕ). tickets ++ went_in (round_of new l) new cs) (sym (nothing-waits eight.round l h)) ∙ in_order new p cs l h)

-- ---- rounds that aren't among the eight

module _ (d : Dispatcher) (p : Possible d) (r : ℕ) (x : is_in r d.rounds ≡ false) where
  other-round : (l : ℕ) → l < lanes → eqb (round_of d l) r ≡ false
  unfolding round_of
  other-round l h = ne_eqb (round_of d l) r (λ q. true≢false (sym (is_in_get_d d.rounds l (omega (arith, p.sized))) ∙ rw q x))

  none_put : (c : Call) → put_in r d c ≡ []
  unfolding put_in one_if
  none_put (adds round ticket) =
      by (eqb (add_ticket d round ticket).number 0)
      (λ e.
      let a = (add-accepted d p round ticket (eqb-true (add_ticket d round ticket).number 0 e)).1 in
      put_accepted d p r round ticket e ∙ rw (rw a.its at (other-round (lane_of d round) a.found)))
      (λ e. put_refused d p r round ticket e)
  none_put turn = refl

  none_taken : (c : Call) → taken_out r d c ≡ []
  unfolding taken_out one_if
  none_taken (adds round ticket) = refl
  none_taken turn =
      by (ltb (next_lane d) lanes)
      (λ e. let h = ltb-true (next_lane d) lanes e in taken_served d p r h ∙ rw (other-round (next_lane d) h))
      (λ e. taken_idle d p r (ltb-false (next_lane d) lanes e))

-- a round that isn't among the eight puts in nothing and is given nothing
pub others-nothing :
    (d : Dispatcher) → Possible d → (r : ℕ) → is_in r d.rounds ≡ false → (cs : List Call) → (went_in r d cs ≡ []) × (came_out r d cs ≡ [])
unfolding went_in came_out
others-nothing d p r x [] = (refl, refl)
others-nothing d p r x (c ∷ cs) =
    let later = others-nothing (after d c) (possible_after d p c) r (rw (rounds_after d p c) x) cs in
    (rw (none_put d p r x c, later.0), rw (none_taken d p r x c, later.1))
