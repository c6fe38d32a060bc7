-- What a call leaves of a lane: its round, its place in the order of serving and a ticket that waits there, unless the lane is served.
-- Assumes nothing.
use Prim.Native.Nat.{ℕ, zero, suc, ◌+◌, ◌-◌, ◌<◌}
use Rattle.std.specs.Prelude.{◌≡◌, true, ◌≢◌, eqb}
use Rattle.std.proofs.Math.Path.{refl}
use Rattle.std.proofs.Common.{ap, arith}
use Rattle.std.proofs.Math.Bool.{not}
use Rattle.std.proofs.Math.Seq.{get_or-set_same, get_or-set_other}
use borrow.Author.Tests.{eqb-true, eqb-false, ne_eqb}
use Rattle.refusal.specs.Refusal.{unrefused}
use Rattle.dispatch.specs.Dispatcher.{lanes, round_of, lane_of, count, serving, Sized}
use Rattle.dispatch.specs.Turns.{is_waiting, next_lane, served_last, less_oldest, added}
use Rattle.dispatch.specs.Calls.{dispatched_by, add_ticket}
use Rattle.dispatch.specs.Lists.{adds, turn, after, Possible}
use Rattle.dispatch.specs.declared.Dispatcher.{Dispatcher}
use Rattle.dispatch_claims.specs.ListLaws.{by}
use Rattle.dispatch_claims.specs.CallsLaws.{after_served, serving-less_oldest}

-- ---- an add, refused or not

module _ (d : Dispatcher) (round ticket : ℕ) where
  -- what holds with the ticket and without it
  after_add : (P : Dispatcher → Type 0) → P (added d (lane_of d round) ticket) → P d → P (after d (adds round ticket))
  unfolding after add_ticket dispatched_by unrefused
  after_add P new old = go (add_ticket d round ticket).number
    where
      go : (n : ℕ) → P (unrefused n (added d (lane_of d round) ticket) d)
      go zero = new
      go (suc n) = old

  pub serving-add : serving (after d (adds round ticket)) ≡ serving d
  unfolding serving added
  serving-add = after_add (λ e. serving e ≡ serving d) refl refl

  pub round_of-add : (l : ℕ) → round_of (after d (adds round ticket)) l ≡ round_of d l
  unfolding round_of added
  round_of-add l = after_add (λ e. round_of e l ≡ round_of d l) refl refl

  pub waits-add : Sized d → (l : ℕ) → l < lanes → is_waiting d l ≡ true → is_waiting (after d (adds round ticket)) l ≡ true
  unfolding is_waiting count added
  waits-add s l h w =
      let m = lane_of d round in
      after_add (λ e. is_waiting e l ≡ true)
      (by (eqb l m)
      (λ e.
      rw (← eqb-true l m e, get_or-set_same d.counts l (count d l + 1) 0 (omega arith))
      (ap not (ne_eqb (count d l + 1) 0 (omega arith))))
      (λ e. rw (get_or-set_other d.counts m l (count d m + 1) 0 (eqb-false l m e)) w))
      w

-- ---- a turn that gives a ticket

module _ (d : Dispatcher) (p : Possible d) (h : next_lane d < lanes) where
  pub serving-turn : serving (after d turn) ≡ served_last (next_lane d) (serving d)
  serving-turn = rw (after_served d p h) (serving-less_oldest d (next_lane d))

  pub round_of-turn : (l : ℕ) → round_of (after d turn) l ≡ round_of d l
  unfolding round_of less_oldest
  round_of-turn l = rw (after_served d p h)

  pub waits-turn : (l : ℕ) → l ≢ next_lane d → is_waiting d l ≡ true → is_waiting (after d turn) l ≡ true
  unfolding is_waiting count less_oldest
  waits-turn l f w = rw (after_served d p h, get_or-set_other d.counts (next_lane d) l (count d (next_lane d) - 1) 0 f) w
