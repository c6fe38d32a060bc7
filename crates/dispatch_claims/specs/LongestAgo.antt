-- "Each turn it gives out the oldest ticket of the waiting lane served longest ago; never served counts as longest, and among those the
-- lowest round goes first.": of any two lanes the order of serving tells, as the turns so far do, which was served longer ago.
-- Assumes nothing.
use Rattle.std.specs.Prelude.{ℕ, ◌≤◌, ◌<◌, ◌≡◌, refl, List, [], ◌∷◌, ltb, eqb}
use Rattle.std.proofs.Common.{sym, ap, ◌∙◌, arith}
use borrow.Author.Tests.{eqb-true, eqb-false, eq-eqb, ne_eqb, le-ltb, ltb-true, ltb-false}
use Rattle.dispatch.specs.Dispatcher.{lanes, round_of, index_of, serving, opened}
use Rattle.dispatch.specs.Turns.{next_lane, without}
use Rattle.dispatch.specs.Calls.{gives_none, gives_oldest, take_turn}
use Rattle.dispatch.specs.Lists.{Call, adds, turn, after, after_all, given_round, rounds_given, ago, Possible, LongestAgo, ServesLongestAgo}
use Rattle.dispatch.specs.declared.Dispatcher.{Dispatcher}
use Rattle.dispatch_claims.specs.ListLaws.{by}
use Rattle.dispatch_claims.specs.CallsLaws.{one_lane, turn_idle, turn_served, possible_after, stays-possible, possible-opened}
use Rattle.dispatch_claims.specs.ServingLaws.{same_order, since, since_served, since_without}
use Rattle.dispatch_claims.specs.ChoiceLaws.{chosen}
use Rattle.dispatch_claims.specs.LaneLaws.{serving-add, round_of-add, serving-turn, round_of-turn}

-- by the order of serving the same of two lanes was served longer ago as by the rounds given out so far, newest first
abbrev Told : Dispatcher → List ℕ → Type 0
Told d gs =
    (l k : ℕ) → l < lanes → k < lanes
    → ltb (since l (serving d)) (since k (serving d)) ≡ ltb (ago (round_of d l) gs) (ago (round_of d k) gs)

-- ---- at opening, and after each call

told-opened : (rounds : List ℕ) → Told (opened rounds) []
unfolding serving opened since index_of ago
told-opened rounds l k h i = refl

told_add : (d : Dispatcher) (gs : List ℕ) (round ticket : ℕ) → Told d gs → Told (after d (adds round ticket)) gs
told_add d gs round ticket t l k h i = rw (serving-add d round ticket, round_of-add d round ticket l, round_of-add d round ticket k) (t l k h i)

same_lane : (d : Dispatcher) → Possible d → (m l : ℕ) → m < lanes → l < lanes → eqb (round_of d m) (round_of d l) ≡ eqb m l
same_lane d p m l h i =
    by (eqb m l)
    (λ e. eq-eqb (round_of d m) (round_of d l) (ap (round_of d) (eqb-true m l e)) ∙ sym e)
    (λ e. ne_eqb (round_of d m) (round_of d l) (λ same. eqb-false m l e (one_lane d p m l h i same)) ∙ sym e)

module _ (d : Dispatcher) (p : Possible d) (gs : List ℕ) (t : Told d gs) where
  told_served : next_lane d < lanes → Told (after d turn) (given_round (take_turn d) gs)
  unfolding given_round ago gives_oldest
  told_served n l k h i =
      let m = next_lane d in
      let others = without m (serving d) in
      rw (serving-turn d p n, since_served l m (serving d), since_served k m (serving d))
      (rw (round_of-turn d p n l, round_of-turn d p n k, turn_served d p n, same_lane d p m l n h, same_lane d p m k n i)
      (same_order (eqb m l) (eqb m k) (since l others) (since k others) (ago (round_of d l) gs) (ago (round_of d k) gs)
      (λ e f. since_without l k m (serving d) (λ same. eqb-false m l e (sym same)) (λ same. eqb-false m k f (sym same)) ∙ t l k h i)))

  told_idle : lanes ≤ next_lane d → Told (after d turn) (given_round (take_turn d) gs)
  unfolding after given_round gives_none
  told_idle n = rw (after, turn_idle d p n) t

  told-turn : Told (after d turn) (given_round (take_turn d) gs)
  told-turn =
      by (ltb (next_lane d) lanes)
      (λ e. told_served (ltb-true (next_lane d) lanes e))
      (λ e. told_idle (ltb-false (next_lane d) lanes e))

told_all : (d : Dispatcher) → Possible d → (gs : List ℕ) → Told d gs → (cs : List Call) → Told (after_all d cs) (rounds_given d cs gs)
unfolding after_all rounds_given
told_all d p gs t [] = t
told_all d p gs t (adds round ticket ∷ cs) =
    told_all (after d (adds round ticket)) (possible_after d p (adds round ticket)) gs (told_add d gs round ticket t) cs
told_all d p gs t (turn ∷ cs) = told_all (after d turn) (possible_after d p turn) (given_round (take_turn d) gs) (told-turn d p gs t) cs

-- ---- the turn after them

longest-ago : (d : Dispatcher) → Possible d → (gs : List ℕ) → Told d gs → LongestAgo d gs (take_turn d)
unfolding gives_oldest
longest-ago d p gs t =
    let m = next_lane d in
    record {
      gives = λ l h w. rw (turn_served d p (chosen d p l h w).lane);
      longest = λ l h w.
          let c = chosen d p l h w in
          rw (turn_served d p c.lane)
          (ltb-false (ago (round_of d m) gs) (ago (round_of d l) gs)
          (sym (t m l c.lane h) ∙ le-ltb (since m (serving d)) (since l (serving d)) c.longest));
      lowest = λ l h w same.
          let c = chosen d p l h w in
          let equal : ago (round_of d l) gs ≡ ago (round_of d m) gs = rw (turn_served d p c.lane) at same in
          let no_longer = t l m h c.lane ∙ le-ltb (ago (round_of d l) gs) (ago (round_of d m) gs) (omega arith) in
          rw (turn_served d p c.lane) (c.first (omega (arith, ltb-false (since l (serving d)) (since m (serving d)) no_longer)));
    }

pub serves_longest-ago : ServesLongestAgo
serves_longest-ago eight s e cs =
    let two = possible-opened eight s e in
    let d = opened eight.round in
    rw two.0
    (longest-ago (after_all d cs) (stays-possible d two.1 cs) (rounds_given d cs [])
    (told_all d two.1 [] (told-opened eight.round) cs))
