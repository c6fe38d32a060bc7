-- "a lane with a ticket waits through at most seven turns of other lanes": with each of these one lane more was served since that lane was,
-- and there are seven others.
-- Assumes nothing.
use Rattle.std.specs.Prelude.{ℕ, ◌+◌, ◌≤◌, ◌<◌, ◌≡◌, refl, true, ◌≢◌, length}
use Rattle.std.proofs.Common.{ap, arith, eq-eqb}
use mathlib.Core.List.{List, [], ◌∷◌, append-eq-nil_iff}
use Rattle.dispatch.specs.Dispatcher.{lanes, last_lane, round_of, serving}
use Rattle.dispatch.specs.Turns.{is_waiting, next_lane}
use Rattle.dispatch.specs.Calls.{gives_oldest}
use Rattle.dispatch.specs.Lists.{Call, adds, turn, after, one_if, given_by, taken_out, came_out, turns, Possible, WaitsAtMostSeven}
use Rattle.dispatch.specs.declared.Dispatcher.{Dispatcher}
use Rattle.dispatch_claims.specs.ListLaws.{room_to_serve}
use Rattle.dispatch_claims.specs.CallsLaws.{holds, turn_served, possible_after}
use Rattle.dispatch_claims.specs.ServingLaws.{since, since_at_most_others, since-grows}
use Rattle.dispatch_claims.specs.ChoiceLaws.{chosen}
use Rattle.dispatch_claims.specs.LaneLaws.{serving-add, round_of-add, waits-add, serving-turn, round_of-turn, waits-turn}

-- a turn that gives a ticket and none of a lane is another lane's
other-lane : (d : Dispatcher) → Possible d → (l : ℕ) → next_lane d < lanes → taken_out (round_of d l) d turn ≡ [] → l ≢ next_lane d
unfolding taken_out given_by one_if gives_oldest
other-lane d p l h e same =
    let r = round_of d (next_lane d) in
    omega (arith, ap length (rw (turn_served d p h, same, eq-eqb r r refl) at e))

-- the lanes served since the lane that waits was, and the turns yet to come
waits : (d : Dispatcher) → Possible d → (l : ℕ) → l < lanes → is_waiting d l ≡ true
    → (cs : List Call) → came_out (round_of d l) d cs ≡ [] → since l (serving d) + turns cs ≤ 7
unfolding came_out taken_out turns
waits d p l h w [] e =
    let held = holds d p.possible in
    omega (arith, since_at_most_others l (serving d), room_to_serve last_lane l (serving d) (omega arith) held.once held.within)
waits d p l h w (adds round ticket ∷ cs) e =
    let next = after d (adds round ticket) in
    let still = waits-add d round ticket p.sized l h w in
    let rest = waits next (possible_after d p (adds round ticket)) l h still cs (rw (round_of-add d round ticket l) e) in
    rw (serving-add d round ticket) at rest
waits d p l h w (turn ∷ cs) e =
    let two = append-eq-nil_iff.0 e in
    let c = chosen d p l h w in
    let other = other-lane d p l c.lane two.0 in
    let still = waits-turn d p c.lane l other w in
    let rest = waits (after d turn) (possible_after d p turn) l h still cs (rw (round_of-turn d p c.lane l) two.1) in
    omega (arith, rw (serving-turn d p c.lane) at rest, since-grows l (next_lane d) (serving d) other c.longest)

pub waits_at_most-seven : WaitsAtMostSeven
waits_at_most-seven d p l h w cs e = omega (arith, waits d p l h w cs e)
