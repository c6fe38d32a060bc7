-- A unit that loses power during its round, any number of times (document 02, item 2): the calls that count are calls one after another,
-- without a power cut, and end with the record and the store that the unit has. So what holds of every such list holds of an honest unit.
-- Assumes nothing.
use Rattle.std.specs.Prelude.{◌≡◌, ℕ}
use Rattle.std.proofs.Math.Path.{refl, sym, ap}
use Rattle.std.proofs.Common.{subst, ◌∙◌}
use mathlib.Core.List.Memᴰ
use mathlib.Core.List.{List, [], ◌∷◌, ◌++◌, map}
use Rattle.protocol.specs.Calls.{opening, write_note, read_note}
use Rattle.round.specs.Round.{Setting, Call, Saved, Event, Makes, Keeps, ComesBack, OpensAgain, InHand, Boat, Moment, note_of, begins, after, after_all, now_of, list_of, AllowedAll, IsHonest, unbroken, list_from}
use Rattle.round.specs.Demand1.{SendsWritten}
use Rattle.claims.specs.Journey.{last_of, left_by}
use Rattle.claims.specs.PowerLaws.{Newest, KeepsNone, whole, whole-unit, whole-left, runs-now, unnoted, after_then, stays-along, note_back_now, sent-noted}

-- ---- the calls that count

-- The calls that count, as a list without power cuts: the store at its opening, its calls, and the record and the store at its end, which are
-- those that the unit has.
pub record WithoutCuts (S : Setting) (u : Boat) : Type 0 where
  pub store : List ℕ
  pub calls : List Call
  pub list : list_of S u ≡ list_from S (opening S.n u.seat S.round S.keys).unit store calls
  pub unit : (now_of S u).unit ≡ last_of S (opening S.n u.seat S.round S.keys).unit store calls
  pub left : (now_of S u).store ≡ left_by S (opening S.n u.seat S.round S.keys).unit store calls

pub list_is_unbroken : (S : Setting) (u : Boat) → IsHonest S u → WithoutCuts S u
list_is_unbroken S u honest =
    let m = now_of S u in
    let h = runs-now S u honest in
    record { store = h.store; calls = h.early ++ h.late; list = whole S u honest m h; unit = whole-unit S u honest m h; left = whole-left S u honest m h }

-- the newest note isn't refused: an honest unit can always be brought back
pub newest_is_taken : (S : Setting) (u : Boat) → IsHonest S u → (saved : Saved) (older : List Saved) → (now_of S u).saved ≡ saved ∷ older → (read_note saved.note).number ≡ 0
unfolding Newest
newest_is_taken S u honest saved older e =
    let h = runs-now S u honest in
    ap (λ x. x.number) (subst (λ (pairs : List Saved). Newest S u honest pairs h.store h.early) e h.newest).0

-- ---- "the calls made after that note count as never made, and what they were given as never having reached it"

-- a unit whose round goes on with these events
abbrev pub going_on : Boat → List Event → Boat
going_on u es = record { seat = u.seat; store = u.store; events = u.events ++ es; in_hand = u.in_hand }

-- what is kept at a keeping, to this out: the note, and the store with it
abbrev pub saved_by : Setting → Boat → List ℕ → Saved
saved_by S u out = record { note = note_of (now_of S u).unit out; store = (now_of S u).store }

module _ (S : Setting) (u : Boat) (honest : IsHonest S u) where
  back_then : (out : List ℕ) (es : List Event) → (write_note (now_of S u).unit out).refusal ≡ 0 → KeepsNone es
      → let now = after S u.seat (now_of S u) (Keeps out) in after S u.seat (after_all S u.seat now es) (ComesBack (saved_by S u out)) ≡ now
  unfolding after
  back_then out es e none =
      let now = after S u.seat (now_of S u) (Keeps out) in
      let stays = stays-along S u.seat now es none in
      rw (stays.0, stays.1, note_back_now S u honest out e)

  -- The unit keeps a note; makes calls, and sends; and comes back from that note and store. Whatever comes later is then as if it came
  -- right after the keeping.
  pub never_made : (out : List ℕ) (es fs : List Event) → (write_note (now_of S u).unit out).refusal ≡ 0 → KeepsNone es
      → now_of S (going_on u (Keeps out ∷ es ++ ComesBack (saved_by S u out) ∷ fs)) ≡ now_of S (going_on u (Keeps out ∷ fs))
  unfolding begins after_all
  never_made out es fs e none =
      let seat = u.seat in
      let m = begins S u in
      let now = after S seat (now_of S u) (Keeps out) in
      after_then S seat m u.events (Keeps out ∷ es ++ ComesBack (saved_by S u out) ∷ fs)
      ∙ after_then S seat now es (ComesBack (saved_by S u out) ∷ fs)
      ∙ ap (λ (x : Moment). after_all S seat x fs) (back_then out es e none)
      ∙ sym (after_then S seat m u.events (Keeps out ∷ fs))

  -- Before the first note, the unit is opened again. Whatever comes later is then as if the unit began with that store.
  pub never_made-unnoted : (now_of S u).saved ≡ [] → (store : List ℕ) (fs : List Event)
      → now_of S (going_on u (OpensAgain store ∷ fs)) ≡ now_of S (record { seat = u.seat; store = store; events = fs; in_hand = u.in_hand })
  unfolding begins after_all after
  never_made-unnoted none store fs =
      after_then S u.seat (begins S u) u.events (OpensAgain store ∷ fs)
      ∙ ap (λ (x : Moment). after_all S u.seat x fs) (rw (none, unnoted S u honest (now_of S u) (runs-now S u honest) none))

-- ---- earlier moments

-- An honest unit was honest at every earlier moment. So what is claimed of its list was true then of the calls that counted then, also of
-- calls that a power cut took away.
module _ (S : Setting) where
  allowed_earlier : (seat : ℕ) (m : Moment) (es fs : List Event) → AllowedAll S seat m (es ++ fs) → AllowedAll S seat m es
  unfolding AllowedAll
  allowed_earlier seat m [] fs a = tt
  allowed_earlier seat m (e ∷ es) fs a = (a.0, allowed_earlier seat (after S seat m e) es fs a.1)

  pub earlier_honest : (seat : ℕ) (store : List ℕ) (es fs : List Event) (in_hand : List InHand)
      → IsHonest S (record { seat = seat; store = store; events = es ++ fs; in_hand = in_hand }) → IsHonest S (record { seat = seat; store = store; events = es; in_hand = in_hand })
  unfolding begins
  earlier_honest seat store es fs in_hand honest =
      record { opened = honest.opened; allowed = allowed_earlier seat (begins S (record { seat = seat; store = store; events = es; in_hand = in_hand })) es fs honest.allowed }

-- ---- messages sent

-- what an honest unit sends was written by a call that counts
pub sends-written : (S : Setting) (u : Boat) → IsHonest S u → SendsWritten S u
sends-written S u honest message d =
    let w = sent-noted S u.seat message (begins S u) u.events honest.allowed d in
    record { call = w.0; in_list = Memᴰ.append_left (now_of S u).since w.1; stands = w.2 }

-- ---- a unit that only makes calls

module _ (S : Setting) (seat : ℕ) where
  last_along : (m : Moment) (cs : List Call) → (after_all S seat m (map Makes cs)).unit ≡ last_of S m.unit m.store cs
  unfolding after after_all last_of
  last_along m [] = refl
  last_along m (c ∷ cs) = last_along (after S seat m (Makes c)) cs

  -- its record at the end
  pub unbroken_last : (store : List ℕ) (cs : List Call) (in_hand : List InHand) → (now_of S (unbroken seat store cs in_hand)).unit ≡ last_of S (opening S.n seat S.round S.keys).unit store cs
  unfolding begins
  unbroken_last store cs in_hand = last_along (begins S (unbroken seat store cs in_hand)) cs
