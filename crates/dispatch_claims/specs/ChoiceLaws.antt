-- Laws of the choice: of the lanes that wait, the one whose turn it is was served longest ago, and among those never served it goes first.
-- Assumes nothing.
use Prim.Native.Nat.{ℕ, zero, suc, ◌≤◌, ◌<◌}
use Rattle.std.specs.Prelude.{◌≡◌, refl, false, not, ◌&&◌, leb, ltb, eqb}
use Rattle.std.proofs.Common.{sym, ◌∙◌, subst, arith}
use Rattle.std.proofs.Math.Bool.{true, or-true, true≢false}
use mathlib.Core.List.{List, [], ◌∷◌}
use borrow.Author.Tests.{eqb-true, eqb-false, eq-eqb, ne_eqb, ltb-true, ltb-false, lt-leb, leb-false, not-true}
use Rattle.refusal.specs.Order.{is_in, distinct}
use Rattle.refusal.specs.RefusalLaws.{both_true}
use Rattle.dispatch.specs.Dispatcher.{lanes, last_lane, round_of, serving}
use Rattle.dispatch.specs.Turns.{is_waiting, never_served, goes_first, first_of_two, first_new, longest_ago, or_else, next_lane}
use Rattle.dispatch.specs.Lists.{Possible}
use Rattle.dispatch.specs.declared.Dispatcher.{Dispatcher}
use Rattle.dispatch_claims.specs.ListLaws.{by, is_in_not_above}
use Rattle.dispatch_claims.specs.CallsLaws.{holds}
use Rattle.dispatch_claims.specs.ServingLaws.{since, since-absent, since-found, since_at_most_all, since_first, since_behind, since_same}

-- "among those the lowest round goes first": lane l goes no later than lane m
abbrev pub NoLater : Dispatcher → ℕ → ℕ → Type 0
NoLater d l m = round_of d l ≤ round_of d m

module _ (d : Dispatcher) where
  -- ---- of two lanes never served

  goes_first_lem : (l found : ℕ) → found < lanes → goes_first d l found ≡ true → NoLater d l found
  unfolding goes_first
  goes_first_lem l found h e =
      let lower = rw (lt-leb lanes found h) at e in
      omega (arith, ltb-true)

  goes_later : (l found : ℕ) → goes_first d l found ≡ false → (found < lanes) × NoLater d found l
  unfolding goes_first
  goes_later l found e =
      by (leb lanes found)
      (λ f. absurd (true≢false (rw f at e)))
      (λ f.
      let not_lower = rw f at e in
      (leb-false lanes found f, omega (arith, ltb-false)))

  -- the lane gives way only to one found that goes no later
  first_of-lane : (l found : ℕ) → l < lanes → is_waiting d l ≡ true → never_served d l ≡ true
      → (first_of_two d l found < lanes) × NoLater d (first_of_two d l found) l
  unfolding first_of_two
  first_of-lane l found h w s = by (goes_first d l found) (λ e. rw (w, s, e) (h, omega arith)) (λ e. rw (w, s, e) (goes_later l found e))

  -- and the one found only to a lane that goes no later
  first_of-found : (l found : ℕ) → l < lanes → found < lanes → (first_of_two d l found < lanes) × NoLater d (first_of_two d l found) found
  unfolding first_of_two
  first_of-found l found h k =
      by (is_waiting d l && never_served d l && goes_first d l found)
      (λ e. rw e (h, goes_first_lem l found k (both_true (is_waiting d l && never_served d l) (goes_first d l found) e).1))
      (λ e. rw e (k, omega arith))

  -- ---- of all lanes never served

  first_new_first : (n l : ℕ) → n ≤ lanes → l < n → is_waiting d l ≡ true → never_served d l ≡ true
      → (first_new d n < lanes) × NoLater d (first_new d n) l
  unfolding first_new
  first_new_first zero l b h w s = absurd (omega arith)
  first_new_first (suc n) l b h w s =
      by (eqb l n)
      (λ e. rw (← eqb-true l n e) (first_of-lane l (first_new d l) (omega arith) w s))
      (λ e.
      let rest = first_new_first n l (omega arith) (omega (arith, eqb-false l n e)) w s in
      let two = first_of-found n (first_new d n) (omega arith) rest.0 in
      (two.0, omega arith))

  first_new-new : (n : ℕ) → first_new d n < lanes → never_served d (first_new d n) ≡ true
  unfolding first_new first_of_two
  first_new-new zero h = absurd (omega arith)
  first_new-new (suc n) h =
      let waits = is_waiting d n in
      let new = never_served d n in
      let first = goes_first d n (first_new d n) in
      by (waits && new && first)
      (λ e. rw e (both_true waits new (both_true (waits && new) first e).0).1)
      (λ e. rw e (first_new-new n (rw e at h)))

  -- ---- of lanes served

  longest_ago-longest : (l : ℕ) (order : List ℕ) → distinct order ≡ true → is_in l order ≡ true → is_waiting d l ≡ true
      → (is_in (longest_ago d order) order ≡ true) × (since l order ≤ since (longest_ago d order) order)
  unfolding is_in distinct longest_ago
  longest_ago-longest l [] u h w = absurd (true≢false (sym h))
  longest_ago-longest l (m ∷ order) u h w =
      let two = both_true (not (is_in m order)) (distinct order) u in
      by (is_waiting d m)
      (λ e.
      rw e
      (rw (eq-eqb m m refl), omega (arith, since-found l (m ∷ order) h, since_first m order (not-true (is_in m order) two.0))))
      (λ e.
      let behind : is_in l order ≡ true = rw (ne_eqb m l (λ same. true≢false (sym w ∙ rw (← same) e))) at h in
      let rest = longest_ago-longest l order two.1 behind w in
      let same : longest_ago d (m ∷ order) ≡ longest_ago d order = rw e in
      subst (λ (x : ℕ). (is_in x (m ∷ order) ≡ true) × (since l (m ∷ order) ≤ since x (m ∷ order))) (sym same) (
        rw rest.0 (or-true (eqb m (longest_ago d order))),
        rw (since_behind l m order behind, since_behind (longest_ago d order) m order rest.0) rest.1,
      ))

-- ---- the lane whose turn it is

-- lane m is a right choice by a lane l that waits
pub record Chosen (d : Dispatcher) (l m : ℕ) : Type 0 where
  pub lane : m < lanes
  pub longest : since l (serving d) ≤ since m (serving d)
  pub first : since l (serving d) ≡ since m (serving d) → NoLater d m l

module _ (d : Dispatcher) (p : Possible d) (l : ℕ) (h : l < lanes) (w : is_waiting d l ≡ true) where
  chosen-new : first_new d lanes < lanes → Chosen d l (first_new d lanes)
  unfolding never_served
  chosen-new new =
      let m = first_new d lanes in
      let all = since-absent m (serving d) (not-true (is_in m (serving d)) (first_new-new d lanes new)) in
      record {
        lane = new;
        longest = omega (arith, all, since_at_most_all l (serving d));
        first = λ same.
            by (is_in l (serving d))
            (λ e. absurd (omega (arith, all, since-found l (serving d) e)))
            (λ e. (first_new_first d lanes l (omega arith) h w (rw e)).1);
      }

  chosen_served : lanes ≤ first_new d lanes → Chosen d l (longest_ago d (serving d))
  unfolding never_served
  chosen_served none =
      let m = longest_ago d (serving d) in
      let held = holds d p.possible in
      let served : is_in l (serving d) ≡ true =
      by (is_in l (serving d)) (λ e. e) (λ e. absurd (omega (arith, (first_new_first d lanes l (omega arith) h w (rw e)).0))) in
      let two = longest_ago-longest d l (serving d) held.once served w in
      record {
        lane = omega (arith, is_in_not_above last_lane m (serving d) held.within two.0);
        longest = two.1;
        first = λ same. rw (since_same l m (serving d) served two.0 same) (omega arith);
      }

  pub chosen : Chosen d l (next_lane d)
  unfolding next_lane or_else
  chosen =
      by (ltb (first_new d lanes) lanes)
      (λ e. rw e (chosen-new (ltb-true (first_new d lanes) lanes e)))
      (λ e. rw e (chosen_served (ltb-false (first_new d lanes) lanes e)))
