-- Laws of a unit that loses power during its round (`Power` has the claims): at every moment the calls that count are calls one after
-- another, and the newest note and store are of the record and the store after the calls before them.
-- Assumes nothing.
use Rattle.std.specs.Prelude.{◌≡◌, ◌≢◌, ℕ}
use Rattle.std.proofs.Math.Path.{refl, ap, subst}
use Rattle.std.proofs.Common.{sym, ◌∙◌}
use mathlib.Core.List.Memᴰ
use mathlib.Core.List.{List, [], ◌∷◌, ◌++◌, Memᴰ}
use Rattle.std.proofs.Math.Logic.{⊎_elim}
use Rattle.protocol.specs.Message.{Message}
use Rattle.protocol.specs.Note.{ValuesSized}
use Rattle.protocol.specs.NoteClaim.{read_back}
use Rattle.protocol.specs.Calls.{made, write_note, read_note}
use Rattle.protocol.specs.declared.Record.{Record}
use Rattle.round.specs.Round.{Setting, Each, Call, Called, outcome, StandsIn, written_in, Saved, Event, Makes, Keeps, Sends, ComesBack, OpensAgain, Boat, Moment, note_of, begins, after, after_all, now_of, Allowed, AllowedAll, IsHonest, list_from}
use Rattle.reading.specs.MessagesLaws.{counted-written}
use Rattle.claims.specs.Sound.{Any}
use Rattle.claims.specs.Journey.{last_of, left_by, Journey, journey, any-worthy}
use Rattle.claims.specs.Opened.{start_of, start-n, start-round, start-sound, start-settled}

-- the note that is kept is what the writing writes
note_is : (r : Record) (out : List ℕ) → note_of r out ≡ (write_note r out).written
unfolding made
note_is r out = counted-written (write_note r out).written out

-- ---- a list goes on where it ended

module _ (S : Setting) where
  list_then : (r : Record) (store : List ℕ) (cs ds : List Call) → list_from S r store (cs ++ ds) ≡ list_from S r store cs ++ list_from S (last_of S r store cs) (left_by S r store cs) ds
  unfolding list_from last_of left_by
  list_then r store [] ds = refl
  list_then r store (c ∷ cs) ds =
      ap (λ (ts : List Called). record { given = c; unit = r; store = store } ∷ ts) (list_then (outcome S c r store).unit (outcome S c r store).store cs ds)

  last_then : (r : Record) (store : List ℕ) (cs ds : List Call) → last_of S r store (cs ++ ds) ≡ last_of S (last_of S r store cs) (left_by S r store cs) ds
  unfolding last_of left_by
  last_then r store [] ds = refl
  last_then r store (c ∷ cs) ds = last_then (outcome S c r store).unit (outcome S c r store).store cs ds

  left_then : (r : Record) (store : List ℕ) (cs ds : List Call) → left_by S r store (cs ++ ds) ≡ left_by S (last_of S r store cs) (left_by S r store cs) ds
  unfolding last_of left_by
  left_then r store [] ds = refl
  left_then r store (c ∷ cs) ds = left_then (outcome S c r store).unit (outcome S c r store).store cs ds

-- ---- the invariant of a unit's events

module _ (S : Setting) (u : Boat) (honest : IsHonest S u) where
  abbrev start : Record
  start = start_of S u honest

  -- the newest note and store kept: record and store after the calls made before it. While none is kept, there are no such calls.
  unfoldable pub Newest : List Saved → List ℕ → List Call → Type 0
  Newest [] store cs = cs ≡ []
  Newest (saved ∷ older) store cs = (read_note saved.note ≡ record { number = 0; unit = last_of S start store cs }) × (saved.store ≡ left_by S start store cs)

  -- the calls that count, one after another: those before the newest note, and those since
  pub record Runs (m : Moment) : Type 0 where
    pub store : List ℕ
    pub early : List Call
    pub late : List Call
    pub noted : m.noted ≡ list_from S start store early
    pub since : m.since ≡ list_from S (last_of S start store early) (left_by S start store early) late
    pub unit : m.unit ≡ last_of S (last_of S start store early) (left_by S start store early) late
    pub left : m.store ≡ left_by S (last_of S start store early) (left_by S start store early) late
    pub newest : Newest m.saved store early

  module _ (m : Moment) (h : Runs m) where
    open h use {store, early, late}

    pub whole : m.noted ++ m.since ≡ list_from S start store (early ++ late)
    whole = rw (h.noted, h.since) (sym (list_then S start store early late))

    pub whole-unit : m.unit ≡ last_of S start store (early ++ late)
    whole-unit = h.unit ∙ sym (last_then S start store early late)

    pub whole-left : m.store ≡ left_by S start store (early ++ late)
    whole-left = h.left ∙ sym (left_then S start store early late)

  -- while no note is kept, no call stands before one
  pub unnoted : (m : Moment) → Runs m → m.saved ≡ [] → m.noted ≡ []
  unfolding list_from Newest
  unnoted m h e = h.noted ∙ ap (list_from S start h.store) (subst (λ (pairs : List Saved). Newest pairs h.store h.early) e h.newest)

  journey_to : (m : Moment) (h : Runs m) → Journey S Any start m.unit m.store (list_from S start h.store (h.early ++ h.late))
  journey_to m h =
      let cs = h.early ++ h.late in
      rw (whole-unit m h, whole-left m h) (journey S Any start h.store cs (start-sound S u honest Any h.store) (start-settled S u honest) (any-worthy S (list_from S start h.store cs)))

  -- the values of its record have their length
  sized : (m : Moment) → Runs m → ValuesSized m.unit
  sized m h =
      let z = (journey_to m h).sound in
      record { own = z.own.collection.sized; heard = z.heard.sized; first = z.first.sized }

  -- the record is of the setting's n and round
  pub runs-setting : (m : Moment) → Runs m → (m.unit.n ≡ S.n) × (m.unit.round ≡ S.round)
  runs-setting m h =
      let g = (journey_to m h).grows in
      (g.n ∙ start-n S u honest, g.round ∙ start-round S u honest)

  pub runs_after : (m : Moment) (e : Event) → Runs m → Allowed S m e → Runs (after S u.seat m e)
  unfolding after list_from last_of left_by Newest
  runs_after m (Makes c) h a =
      let r = last_of S start h.store h.early in
      let left = left_by S start h.store h.early in
      record {
        store = h.store;
        early = h.early;
        late = h.late ++ c ∷ [];
        noted = h.noted;
        since = rw (h.since, h.unit, h.left) (sym (list_then S r left h.late (c ∷ [])));
        unit = rw (h.unit, h.left) (sym (last_then S r left h.late (c ∷ [])));
        left = rw (h.unit, h.left) (sym (left_then S r left h.late (c ∷ [])));
        newest = h.newest;
      }
  runs_after m (Keeps out) h a = record {
    store = h.store;
    early = h.early ++ h.late;
    late = [];
    noted = whole m h;
    since = refl;
    unit = whole-unit m h;
    left = whole-left m h;
    newest = (ap read_note (note_is m.unit out) ∙ read_back m.unit out (sized m h) a ∙ ap (λ (r : Record). record { number = 0; unit = r }) (whole-unit m h), whole-left m h);
  }
  runs_after m (Sends message) h a = h
  runs_after m (ComesBack saved) h a =
      let newest = subst (λ (pairs : List Saved). Newest pairs h.store h.early) a.1 h.newest in
      record {
        store = h.store;
        early = h.early;
        late = [];
        noted = h.noted;
        since = refl;
        unit = ap (λ x. x.unit) newest.0;
        left = newest.1;
        newest = h.newest;
      }
  runs_after m (OpensAgain store) h a =
      record {
        store = store;
        early = [];
        late = [];
        noted = unnoted m h a;
        since = refl;
        unit = refl;
        left = refl;
        newest = subst (λ (pairs : List Saved). Newest pairs store []) (sym a) refl;
      }

  runs-along : (m : Moment) (es : List Event) → Runs m → AllowedAll S u.seat m es → Runs (after_all S u.seat m es)
  unfolding after_all AllowedAll
  runs-along m [] h a = h
  runs-along m (e ∷ es) h a = runs-along (after S u.seat m e) es (runs_after m e h a.0) a.1

  pub runs_first : Runs (begins S u)
  unfolding begins list_from last_of left_by Newest
  runs_first = record { store = u.store; early = []; late = []; noted = refl; since = refl; unit = refl; left = refl; newest = refl }

  pub runs-now : Runs (now_of S u)
  runs-now = runs-along (begins S u) u.events runs_first honest.allowed

-- ---- events without a keeping

-- the moment of events one after another
pub after_then : (S : Setting) (seat : ℕ) (m : Moment) (es fs : List Event) → after_all S seat m (es ++ fs) ≡ after_all S seat (after_all S seat m es) fs
unfolding after_all
after_then S seat m [] fs = refl
after_then S seat m (e ∷ es) fs = after_then S seat (after S seat m e) es fs

-- the notes and stores kept, and the calls before the newest, stay
-- no note is kept in these events
abbrev pub KeepsNone : List Event → Type 0
KeepsNone es = Each (λ e. (out : List ℕ) → e ≢ Keeps out) es

module _ (S : Setting) (seat : ℕ) where
  stays_after : (m : Moment) (e : Event) → ((out : List ℕ) → e ≢ Keeps out) → ((after S seat m e).saved ≡ m.saved) × ((after S seat m e).noted ≡ m.noted)
  unfolding after
  stays_after m (Makes c) h = (refl, refl)
  stays_after m (Keeps out) h = absurd (h out refl)
  stays_after m (Sends message) h = (refl, refl)
  stays_after m (ComesBack saved) h = (refl, refl)
  stays_after m (OpensAgain store) h = (refl, refl)

  pub stays-along : (m : Moment) (es : List Event) → KeepsNone es
      → ((after_all S seat m es).saved ≡ m.saved) × ((after_all S seat m es).noted ≡ m.noted)
  unfolding after_all
  stays-along m [] h = (refl, refl)
  stays-along m (e ∷ es) h =
      let here = stays_after m e (h e (Memᴰ.head refl)) in
      let rest = stays-along (after S seat m e) es (λ x d. h x (Memᴰ.tail d)) in
      (rest.0 ∙ here.0, rest.1 ∙ here.1)

-- the note of an honest unit's record is read back
pub note_back_now : (S : Setting) (u : Boat) (honest : IsHonest S u) (out : List ℕ) → (write_note (now_of S u).unit out).refusal ≡ 0
    → (read_note (note_of (now_of S u).unit out)).unit ≡ (now_of S u).unit
note_back_now S u honest out e =
    let r = (now_of S u).unit in
    ap (λ x. x.unit) (ap read_note (note_is r out) ∙ read_back r out (sized S u honest (now_of S u) (runs-now S u honest)) e)

-- ---- messages sent

-- a call before the newest note counts from then on
module _ (S : Setting) (seat : ℕ) (t : Called) where
  noted_after : (m : Moment) (e : Event) → Memᴰ t m.noted → Memᴰ t (after S seat m e).noted
  unfolding after
  noted_after m (Makes c) d = d
  noted_after m (Keeps out) d = Memᴰ.append_left m.since d
  noted_after m (Sends message) d = d
  noted_after m (ComesBack saved) d = d
  noted_after m (OpensAgain store) d = d

  noted-along : (m : Moment) (es : List Event) → Memᴰ t m.noted → Memᴰ t (after_all S seat m es).noted
  unfolding after_all
  noted-along m [] d = d
  noted-along m (e ∷ es) d = noted-along (after S seat m e) es (noted_after m e d)

module _ (S : Setting) (seat : ℕ) (message : Message) where
  pub sent-noted : (m : Moment) (es : List Event) → AllowedAll S seat m es → Memᴰ (Sends message) es
      → (t : Called) × Memᴰ t (after_all S seat m es).noted × StandsIn S.n message (written_in S t)
  unfolding after_all AllowedAll
  sent-noted m [] a d = absurd (Memᴰ.not-nil d)
  sent-noted m (e ∷ es) a d =
      ⊎_elim (λ q. let w = subst (Allowed S m) (sym q) a.0 in (w.0, noted-along S seat w.0 m (e ∷ es) w.1, w.2)) (λ later. sent-noted (after S seat m e) es a.1 later) (Memᴰ.cases_cons d)
