-- The returns of keeping a SUBMIT and of collecting kept ones, over plain values, and the state that they leave.
use Rattle.std.specs.Prelude.{◌≡◌, Bool, List, ℕ, zero, suc, ◌+◌, ◌≤◌, ◌<◌, ltb, length}
use Rattle.std.proofs.Math.Path.{refl}
use Rattle.std.proofs.Common.{ap, ◌∙◌, add-one, arith}
use Rattle.std.proofs.Math.Bool.{true, false, and-eq-true_iff}
use borrow.Author.Tests.{ltb-true}
use Rattle.quorum.specs.Quorum.{k, has, size, with}
use Rattle.protocol.specs.Layout.{kept_value_bank, slot_at}
use Rattle.protocol.specs.LayoutLaws.{kept-value_bank}
use Rattle.protocol.specs.Message.{Message, read_value}
use Rattle.protocol.specs.Record.{with_kept, Possible}
use Rattle.protocol.specs.Certificate.{slot, kept_value, kept_signature}
use Rattle.protocol.specs.Calls.{start}
use Rattle.protocol.specs.Step.{State, collect, is_wanted, collect_if_wanted, keep, keep_if_first, hear_submit, is_open_to, collect_kept_seat, collect_kept_below, empty_kept, collect_kept}
use Rattle.protocol.specs.StepLaws.{after, after_cond}
use Rattle.protocol.specs.declared.Record.{Record}
use Rattle.phase.specs.Phases.{Changed, Fits}
use Rattle.phase.specs.PhasesLaws.{fits_like, fits_same, cond-written, likewise_changed, changed_then}
use Rattle.collecting.specs.CollectingLaws.{collect_if_wanted-quiet, wanted-new, one_more, wanted-fits}

-- ---- SUBMIT heard

pub hear_submit-quiet : (seat : ℕ) (value signature : List ℕ) (s : State) → (hear_submit seat value signature s).written ≡ s.written
unfolding hear_submit keep_if_first keep
hear_submit-quiet seat value signature s =
    cond-written s.written s.unit.own.submitted (collect_if_wanted seat value signature s) (keep_if_first seat value signature s) (collect_if_wanted-quiet seat value signature s)
    (cond-written s.written (has seat s.unit.kept) s (keep seat value signature s) refl refl)

kept-set-fits : (r u : Record) (kept : ℕ) → u ≡ with_kept r kept → (store store' : List ℕ) → Fits r store → length store' ≡ length store → Fits u store' × (u.n ≡ r.n)
kept-set-fits r u kept e store store' h long = (fits_like r u store store' h (rw e) (rw e) (rw e) (rw e) long, rw e)

pub heard-submit-fits : (r : Record) → Possible r → (store : List ℕ) → Fits r store → (u : Record) (store' : List ℕ) → length store' ≡ length store
    → (seat : ℕ) (value signature : List ℕ) → seat < r.n → Changed (hear_submit seat value signature) r store u store' → Fits u store' × (u.n ≡ r.n)
unfolding hear_submit keep_if_first keep
heard-submit-fits r possible store fits u store' long seat value signature l done = go r.own.submitted refl
  where
    before : (b : Bool) → has seat r.kept ≡ b → r.own.submitted ≡ false → Fits u store' × (u.n ≡ r.n)
    before true h e = fits_same r u store store' fits (done.recorded ∙ rw (e, h)) long
    before false h e = kept-set-fits r u (with seat r.kept) (done.recorded ∙ rw (e, h)) store store' fits long

    go : (b : Bool) → r.own.submitted ≡ b → Fits u store' × (u.n ≡ r.n)
    go true e =
        wanted-fits r store fits u store' long seat value signature l (one_more r possible seat value)
        (record { recorded = done.recorded ∙ rw e; stored = done.stored ∙ rw e })
    go false e = before (has seat r.kept) refl e

-- ---- one kept seat

module _ (r : Record) (store : List ℕ) (seat : ℕ) where
  pub collect_kept_seat_open : (value signature : List ℕ) (u : Record) (store' : List ℕ) → is_open_to seat r ≡ true → value ≡ kept_value r.n store seat → signature ≡ kept_signature r.n store seat
      → Changed (collect_if_wanted seat value signature) r store u store' → Changed (collect_kept_seat seat) r store u store'
  unfolding collect_kept_seat
  collect_kept_seat_open value signature u store' e v g c = likewise_changed (collect_if_wanted seat value signature) r store (collect_kept_seat seat) u store' (rw (e, v, g)) c

  -- a value read at its place is the kept one
  pub kept-value-read : (at : ℕ) (value : List ℕ) → at ≡ slot_at r.n kept_value_bank seat → value ≡ read_value at store → value ≡ kept_value r.n store seat
  unfolding read_value slot
  kept-value-read at value a e = e ∙ rw (a, kept-value_bank.1)

  -- there is room for one more
  under : is_open_to seat r ≡ true → (value : List ℕ) → is_wanted seat value r ≡ true → size (with seat r.own.collected) ≤ k r.n
  unfolding is_open_to
  under e value w =
      let few = ltb-true (size r.own.collected) (k r.n) ((and-eq-true_iff (has seat r.kept) (ltb (size r.own.collected) (k r.n))).0 e).1 in
      omega (arith, wanted-new r seat value w)

  seat-fits : Fits r store → seat < r.n → (u : Record) (store' : List ℕ) → length store' ≡ length store → Changed (collect_kept_seat seat) r store u store' → Fits u store' × (u.n ≡ r.n)
  unfolding collect_kept_seat
  seat-fits fits l u store' long done = go (is_open_to seat r) refl
    where
      go : (b : Bool) → is_open_to seat r ≡ b → Fits u store' × (u.n ≡ r.n)
      go true e =
          wanted-fits r store fits u store' long seat (kept_value r.n store seat) (kept_signature r.n store seat) l (under e (kept_value r.n store seat))
          (record { recorded = done.recorded ∙ rw e; stored = done.stored ∙ rw e })
      go false e = fits_same r u store store' fits (done.recorded ∙ rw e) long

-- ---- the seats one after another

seat-quiet : (seat : ℕ) (s : State) → (collect_kept_seat seat s).written ≡ s.written
unfolding collect_kept_seat
seat-quiet seat s =
    let value = kept_value s.unit.n s.store seat in
    let signature = kept_signature s.unit.n s.store seat in
    cond-written s.written (is_open_to seat s.unit) (collect_if_wanted seat value signature s) s (collect_if_wanted-quiet seat value signature s) refl

below-quiet : (t : ℕ) (s : State) → (collect_kept_below t s).written ≡ s.written
unfolding collect_kept_below
below-quiet zero s = refl
below-quiet (suc t) s = seat-quiet t (collect_kept_below t s) ∙ below-quiet t s

pub collect_kept-quiet : (s : State) → (collect_kept s).written ≡ s.written
unfolding collect_kept empty_kept
collect_kept-quiet s = below-quiet s.unit.n s

-- what a loop over the seats has come to at seat s
pub record Gathering (r : Record) (before : List ℕ) (s : ℕ) (u : Record) (store : List ℕ) : Type 0 where
  pub below : s ≤ r.n
  pub long : length store ≡ length before
  pub done : Changed (collect_kept_below s) r before u store
  pub fits : Fits u store
  pub same : u.n ≡ r.n

pub gathering_none : (r : Record) (before : List ℕ) → Fits r before → Gathering r before 0 r before
unfolding collect_kept_below
gathering_none r before fits = record { below = omega arith; long = refl; done = record { recorded = refl; stored = refl }; fits = fits; same = refl }

pub gathering_seat : (r : Record) (before : List ℕ) (s : ℕ) (u : Record) (store : List ℕ) → Gathering r before s u store → s < r.n
    → (v : Record) (store' : List ℕ) → length store' ≡ length store → Changed (collect_kept_seat s) u store v store' → Gathering r before (s + 1) v store'
unfolding collect_kept_below
gathering_seat r before s u store g l v store' long c =
    let after = seat-fits u store s g.fits (rw g.same l) v store' long c in
    record {
      below = omega arith;
      long = long ∙ g.long;
      done = rw (add-one s) (changed_then (collect_kept_below s) (collect_kept_seat s) r before u store v store' (below-quiet s (start r before)) g.done c);
      fits = after.0;
      same = after.1 ∙ g.same;
    }

pub gathering_all : (r : Record) (before : List ℕ) (s : ℕ) (u : Record) (store : List ℕ) → Gathering r before s u store → s ≡ r.n
    → (v : Record) → v ≡ with_kept u 0 → Changed collect_kept r before v store × Fits v store × (v.n ≡ r.n)
unfolding collect_kept empty_kept
gathering_all r before s u store g all v e =
    let after = kept-set-fits u v 0 e store store g.fits refl in
    (record { recorded = e ∙ rw (g.done.recorded, all); stored = g.done.stored ∙ rw all }, after.0, after.1 ∙ g.same)

-- ---- messages written before

collect_if_wanted_after : (seat : ℕ) (value signature : List ℕ) (ms : List Message) (s : State)
    → collect_if_wanted seat value signature (after ms s) ≡ after ms (collect_if_wanted seat value signature s)
unfolding collect_if_wanted collect
collect_if_wanted_after seat value signature ms s = after_cond ms (is_wanted seat value s.unit) (collect seat signature s) s

collect_kept_seat_after : (seat : ℕ) (ms : List Message) (s : State) → collect_kept_seat seat (after ms s) ≡ after ms (collect_kept_seat seat s)
unfolding collect_kept_seat
collect_kept_seat_after seat ms s =
    let value = kept_value s.unit.n s.store seat in
    let signature = kept_signature s.unit.n s.store seat in
    rw (collect_if_wanted_after seat value signature ms s) (after_cond ms (is_open_to seat s.unit) (collect_if_wanted seat value signature s) s)

collect_kept_below_after : (seat : ℕ) (ms : List Message) (s : State) → collect_kept_below seat (after ms s) ≡ after ms (collect_kept_below seat s)
unfolding collect_kept_below
collect_kept_below_after zero ms s = refl
collect_kept_below_after (suc seat) ms s =
    ap (collect_kept_seat seat) (collect_kept_below_after seat ms s) ∙ collect_kept_seat_after seat ms (collect_kept_below seat s)

pub collect_kept_after : (ms : List Message) (s : State) → collect_kept (after ms s) ≡ after ms (collect_kept s)
unfolding collect_kept empty_kept
collect_kept_after ms s = ap empty_kept (collect_kept_below_after s.unit.n ms s)
