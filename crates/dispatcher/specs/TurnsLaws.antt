-- Laws of whose turn it is, for the loops that find it.
-- Assumes nothing.
use Rattle.std.specs.Prelude.{Option, Some, None, unwrap_or, IfSome, ℕ, ◌+◌, ◌≤◌, ◌<◌, ◌≡◌, refl, true, false, ◌&&◌, List, eqb, length, drop, get_or}
use Rattle.std.specs.Option.{option_or}
use Rattle.std.proofs.Common.{arith, add-one, drop-cons, drop_of_length-le}
use borrow.Author.Tests.{lt-ltb, eqb-false, not-true}
use Rattle.dispatch.specs.Dispatcher.{lanes, last_lane, count, serving, impossible}
use Rattle.dispatch.specs.Turns.{is_waiting, never_served, goes_first, first_of_two, first_new, longest_ago, or_else}
use Rattle.dispatch.specs.declared.Dispatcher.{Dispatcher}
use Rattle.dispatch_claims.specs.ListLaws.{not_above}
use Rattle.dispatch_claims.specs.CallsLaws.{holds}

-- ---- waiting

pub waits_some : (d : Dispatcher) (l : ℕ) → is_waiting d l ≡ true → 1 ≤ count d l
unfolding is_waiting
waits_some d l e = let some = eqb-false (count d l) 0 (not-true (eqb (count d l) 0) e) in omega (arith, some)

-- ---- never served

module _ (d : Dispatcher) (l found : ℕ) (e : found ≡ first_new d l) where
  pub new-here : (is_waiting d l && never_served d l && goes_first d l found) ≡ true → l ≡ first_new d (l + 1)
  unfolding first_new first_of_two
  new-here t = rw (add-one, ← e, t)

  pub new_not : (is_waiting d l && never_served d l && goes_first d l found) ≡ false → found ≡ first_new d (l + 1)
  unfolding first_new first_of_two
  new_not t = rw (add-one, ← e, t)

-- ---- the order of serving, from i on

-- it names lanes
pub served_lane : (d : Dispatcher) → impossible d ≡ false → (i : ℕ) → get_or (serving d) i 0 < lanes
served_lane d p i = omega (arith, not_above last_lane (serving d) (holds d p).within i)

module _ (d : Dispatcher) (order : List ℕ) (i : ℕ) (h : i < length order) where
  pub ago-here : is_waiting d (get_or order i 0) ≡ true → longest_ago d (drop i order) ≡ get_or order i 0
  unfolding longest_ago
  ago-here e = rw (drop-cons order i 0 h, e)

  pub ago-later : is_waiting d (get_or order i 0) ≡ false → longest_ago d (drop i order) ≡ longest_ago d (drop (i + 1) order)
  unfolding longest_ago
  ago-later e = rw (drop-cons order i 0 h, e, add-one)

pub ago_none : (d : Dispatcher) (order : List ℕ) (i : ℕ) → length order ≤ i → longest_ago d (drop i order) ≡ lanes
unfolding longest_ago
ago_none d order i h = rw (drop_of_length-le order h)

-- ---- a lane never served, or else one served longest ago

pub chosen : (never longest : Option ℕ) → IfSome never (λ l. l < lanes) → unwrap_or (option_or never longest) lanes ≡ or_else (unwrap_or never lanes) (unwrap_or longest lanes)
unfolding or_else
chosen (Some l) longest h = rw (lt-ltb l lanes h)
chosen None longest h = refl
