-- The returns of collecting, over plain values, and the room that a collected signature leaves.
use Rattle.std.specs.Prelude.{◌≡◌, Bool, true, false, not, ◌&&◌, List, [], ℕ, ◌+◌, ◌≤◌, ◌<◌, length}
use Rattle.std.proofs.Math.Path.{refl}
use Rattle.std.proofs.Common.{sym, ◌∙◌, arith}
use Rattle.std.proofs.Math.Bool.{and-eq-true_iff}
use Rattle.std.proofs.lemmas.Bool.{false≢true, not-true}
use Rattle.std.proofs.Math.Decide.{ℕ_discrete}
use Rattle.octets.specs.Strings.{same}
use Rattle.octets.specs.StringsLaws.{part_all}
use Rattle.quorum.specs.Quorum.{t0, k, has, size, with}
use Rattle.quorum.specs.QuorumLaws.{has_false, with_lt, size_with_new, bit-empty, size-empty}
use Rattle.protocol.specs.Layout.{value_length}
use Rattle.protocol.specs.Message.{Submit, render, read_value}
use Rattle.protocol.specs.Calls.{start}
use Rattle.protocol.specs.Refusals.{said}
use Rattle.protocol.specs.Step.{State, write, set_own_value, collect, submit_own, is_wanted, collect_if_wanted}
use Rattle.protocol.specs.declared.Record.{Record}
use Rattle.wire_write.specs.Writing.{Wrote}
use Rattle.phase.specs.Phases.{Changed, Did, Fits}
use Rattle.phase.specs.PhasesLaws.{fits_like, fits_same, cond-written, did_writing_one}
use Rattle.protocol.specs.Record.{Possible}

-- ---- submit

module _ (r : Record) (value : List ℕ) (u : Record) (told : u ≡ (set_own_value value (start r [])).unit) where
  pub value-set-fits : (store : List ℕ) → Fits r store → Fits u store × (r.seat < u.n)
  unfolding set_own_value
  value-set-fits store h = (fits_like r u store store h (rw told) (rw told) (rw told) (rw told) refl, rw told h.seated)

  pub own-submitted : (given signature store out : List ℕ) → length given ≡ value_length → value ≡ read_value 0 given
      → (v : Record) (store' out' : List ℕ) (end : ℕ) → Changed (collect r.seat signature) u store v store'
      → Wrote 0 (render (Submit r.round r.seat given signature)) out out' end
      → Did (submit_own given signature) r store out 0 v store' out' end
  unfolding submit_own write collect set_own_value read_value
  own-submitted given signature store out l e v store' out' end c w =
      let whole : value ≡ given = e ∙ part_all given value_length l in
      did_writing_one (submit_own given signature) r store (Submit r.round r.seat given signature) out 0 v store' out' end refl
      (record { recorded = c.recorded ∙ rw (told, whole); stored = c.stored ∙ rw told }) w

-- collecting writes nothing
pub collect_if_wanted-quiet : (seat : ℕ) (value signature : List ℕ) (s : State) → (collect_if_wanted seat value signature s).written ≡ s.written
unfolding collect_if_wanted collect
collect_if_wanted-quiet seat value signature s = cond-written s.written (is_wanted seat value s.unit) (collect seat signature s) s refl refl

-- ---- room for one more

fits_with : (r u : Record) (store store' : List ℕ) (seat : ℕ) → Fits r store → seat < r.n → size (with seat r.own.collected) ≤ k r.n
    → u.n ≡ r.n → u.seat ≡ r.seat → u.own.collected ≡ with seat r.own.collected → u.first.seats ≡ r.first.seats → length store' ≡ length store → Fits u store'
fits_with r u store store' seat h l few n own collected first long =
    record {
      some = rw n h.some;
      most = rw n h.most;
      seated = rw (n, own) h.seated;
      collected = rw (n, collected) (with_lt r.n seat r.own.collected l h.collected);
      few = rw (n, collected) few;
      first = rw (n, first) h.first;
      held = rw (n, first) h.held;
      slots = rw (n, long) h.slots;
    }

k_some : (n : ℕ) → 1 ≤ n → 1 ≤ k n
unfolding k t0
k_some n h = omega arith

-- a wanted seat is new
pub wanted-new : (r : Record) (seat : ℕ) (value : List ℕ) → is_wanted seat value r ≡ true → size (with seat r.own.collected) ≡ size r.own.collected + 1
unfolding is_wanted
wanted-new r seat value e =
    let new = ((and-eq-true_iff (not r.confirmed && same value r.own.value) (not (has seat r.own.collected))).0 e).1 in
    size_with_new seat r.own.collected ((has_false seat r.own.collected).0 (not-true (has seat r.own.collected) new))

-- fewer than k seats are collected before confirming
pub one_more : (r : Record) → Possible r → (seat : ℕ) (value : List ℕ) → is_wanted seat value r ≡ true → size (with seat r.own.collected) ≤ k r.n
unfolding is_wanted
one_more r possible seat value e =
    let wanted = ((and-eq-true_iff (not r.confirmed && same value r.own.value) (not (has seat r.own.collected))).0 e).0 in
    let unconfirmed = ((and-eq-true_iff (not r.confirmed) (same value r.own.value)).0 wanted).0 in
    go (not-true r.confirmed unconfirmed) (wanted-new r seat value e) (ℕ_discrete (size r.own.collected) (k r.n))
  where
    go : r.confirmed ≡ false → size (with seat r.own.collected) ≡ size r.own.collected + 1 → Dec (size r.own.collected ≡ k r.n) → size (with seat r.own.collected) ≤ k r.n
    go before more (yes full) = absurd (false≢true (sym before ∙ possible.complete full))
    go before more (no short) = omega (arith, possible.few)

module _ (r : Record) (possible : Possible r) (store : List ℕ) (fits : Fits r store) (u : Record) (store' : List ℕ) (long : length store' ≡ length store) where
  -- nothing was collected before the submission
  pub submitted-fits : (value signature : List ℕ) → said r ≡ false → Changed (submit_own value signature) r store u store' → Fits u store' × (u.n ≡ r.n)
  unfolding said submit_own write collect set_own_value
  submitted-fits value signature e done =
      let none : r.own.collected ≡ 0 = possible.unsaid e in
      let one : size (with r.seat r.own.collected) ≤ k r.n =
      rw none (omega (arith, size_with_new r.seat 0 (bit-empty r.seat), size-empty, k_some r.n fits.some)) in
      (fits_with r u store store' r.seat fits fits.seated one (rw done.recorded) (rw done.recorded) (rw done.recorded) (rw done.recorded) long, rw done.recorded)

-- a signature collected where it is wanted and there is room for one more
pub wanted-fits : (r : Record) (store : List ℕ) → Fits r store → (u : Record) (store' : List ℕ) → length store' ≡ length store → (seat : ℕ) (value signature : List ℕ) → seat < r.n
    → (is_wanted seat value r ≡ true → size (with seat r.own.collected) ≤ k r.n) → Changed (collect_if_wanted seat value signature) r store u store' → Fits u store' × (u.n ≡ r.n)
unfolding collect_if_wanted collect
wanted-fits r store fits u store' long seat value signature l more done = go (is_wanted seat value r) refl
  where
    go : (b : Bool) → is_wanted seat value r ≡ b → Fits u store' × (u.n ≡ r.n)
    go true e =
        let same : u ≡ (collect seat signature (start r store)).unit = done.recorded ∙ rw e in
        (fits_with r u store store' seat fits l (more e) (rw same) (rw same) (rw same) (rw same) long, rw same)
    go false e = fits_same r u store store' fits (done.recorded ∙ rw e) long
