-- Phases by their results, and two phases in a row as one.
use Rattle.std.specs.Prelude.{◌≡◌, refl, Bool, true, false, cond, List, [], ◌∷◌, ℕ, ◌≤◌, length}
use Rattle.std.proofs.Math.Path.{sym}
use Rattle.std.proofs.Common.{ap, ◌∙◌, append-nil, take-append-drop}
use Rattle.std.proofs.Math.Nat.{add-zero}
use Rattle.octets.specs.Octets.{patch}
use Rattle.protocol.specs.Message.{Message, render, render_all}
use Rattle.protocol.specs.Calls.{start}
use Rattle.protocol.specs.Step.{State}
use Rattle.protocol.specs.StepLaws.{after}
use Rattle.protocol.specs.MessageLaws.{all_append}
use Rattle.protocol.specs.declared.Record.{Record}
use Rattle.wire_write.specs.Writing.{Wrote}
use Rattle.wire_write.specs.WritingLaws.{wrote_then}
use Rattle.phase.specs.Phases.{Changed, Did, Fits}

-- `Fits` of a record and a store that agree in what it asks
pub fits_like : (r u : Record) (store store' : List ℕ) → Fits r store → u.n ≡ r.n → u.seat ≡ r.seat → u.own.collected ≡ r.own.collected
    → u.first.seats ≡ r.first.seats → length store' ≡ length store → Fits u store'
fits_like r u store store' h n seat collected first long =
    record {
      some = rw n h.some;
      most = rw n h.most;
      seated = rw (n, seat) h.seated;
      collected = rw (n, collected) h.collected;
      few = rw (n, collected) h.few;
      first = rw (n, first) h.first;
      held = rw (n, first) h.held;
      slots = rw (n, long) h.slots;
    }

pub fits_same : (r u : Record) (store store' : List ℕ) → Fits r store → u ≡ r → length store' ≡ length store → Fits u store' × (u.n ≡ r.n)
fits_same r u store store' h e long = (fits_like r u store store' h (rw e) (rw e) (rw e) (rw e) long, rw e)

-- a choice of two phases that write the same
pub cond-written : (ms : List Message) (b : Bool) (s t : State) → s.written ≡ ms → t.written ≡ ms → (cond b s t).written ≡ ms
cond-written ms true s t p q = p
cond-written ms false s t p q = q

module _ (f : State → State) (r : Record) (store : List ℕ) where
  -- a phase that writes nothing
  pub did_writing_none : (out : List ℕ) (at : ℕ) (unit : Record) (store' : List ℕ) → (f (start r store)).written ≡ [] → Changed f r store unit store' → Did f r store out at unit store' out at
  unfolding render_all patch
  did_writing_none out at unit store' e k = record { changed = k; wrote = rw e (record { ends = sym (add-zero at); wrote = rw add-zero (sym (take-append-drop at out)) }) }

  -- a phase g with the same result as f
  pub likewise_changed : (g : State → State) (unit : Record) (store' : List ℕ) → f (start r store) ≡ g (start r store) → Changed f r store unit store' → Changed g r store unit store'
  likewise_changed g unit store' e k = record { recorded = k.recorded ∙ rw e; stored = k.stored ∙ rw e }

  pub did_same : (g : State → State) (out : List ℕ) (at : ℕ) (unit : Record) (store' out' : List ℕ) (end : ℕ) → f (start r store) ≡ g (start r store)
      → Did f r store out at unit store' out' end → Did g r store out at unit store' out' end
  did_same g out at unit store' out' end e d =
      record { changed = likewise_changed g unit store' e d.changed; wrote = rw (← e) d.wrote }

  -- a phase that writes one message
  pub did_writing_one : (m : Message) (out : List ℕ) (at : ℕ) (unit : Record) (store' out' : List ℕ) (end : ℕ) → (f (start r store)).written ≡ m ∷ []
      → Changed f r store unit store' → Wrote at (render m) out out' end → Did f r store out at unit store' out' end
  unfolding render_all
  did_writing_one m out at unit store' out' end e k w = record { changed = k; wrote = rw (e, append-nil) w }

-- a phase that leaves all as it is
pub unchanged : (r : Record) (store : List ℕ) (f : State → State) (out : List ℕ) (at : ℕ) → start r store ≡ f (start r store) → Did f r store out at r store out at
unchanged r store f out at e =
    did_same (λ s. s) r store f out at r store out at e (did_writing_none (λ s. s) r store out at r store refl (record { recorded = refl; stored = refl }))

-- one phase after another, where the first writes nothing
pub changed_then : (f g : State → State) (r : Record) (store : List ℕ) (u : Record) (store' : List ℕ) (v : Record) (store'' : List ℕ) → (f (start r store)).written ≡ []
    → Changed f r store u store' → Changed g u store' v store'' → Changed (λ s. g (f s)) r store v store''
changed_then f g r store u store' v store'' none d h =
    let s = f (start r store) in
    let whole : s ≡ start u store' = ap (λ (ms : List Message). record { unit = s.unit; store = s.store; written = ms }) none ∙ rw (d.recorded, d.stored) in
    record { recorded = h.recorded ∙ rw (← whole); stored = h.stored ∙ rw (← whole) }

-- one phase after another, where the second only adds to the messages
pub did_then : (f g : State → State) → ((ms : List Message) (s : State) → g (after ms s) ≡ after ms (g s))
    → (r : Record) (store out : List ℕ) (at : ℕ) (u : Record) (store' out' : List ℕ) (a : ℕ) (v : Record) (store'' out'' : List ℕ) (e : ℕ)
    → at ≤ length out → Did f r store out at u store' out' a → Did g u store' out' a v store'' out'' e
    → Did (λ s. g (f s)) r store out at v store'' out'' e
did_then f g adds r store out at u store' out' a v store'' out'' e room d h =
    let s = f (start r store) in
    let t = g (start u store') in
    let whole : s ≡ after s.written (start s.unit s.store) = rw append-nil in
    let same : start s.unit s.store ≡ start u store' = rw (d.changed.recorded, d.changed.stored) in
    let both : g s ≡ after s.written t = ap g whole ∙ adds s.written (start s.unit s.store) ∙ ap (λ (x : State). after s.written (g x)) same in
    record {
      changed = record { recorded = h.changed.recorded ∙ rw both; stored = h.changed.stored ∙ rw both };
      wrote = rw (both, all_append) (wrote_then d.wrote h.wrote room);
    }
