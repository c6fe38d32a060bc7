-- Laws of records that aren't impossible (`Record` has the definition).
-- Assumes nothing.
use Rattle.std.specs.Prelude.{◌≡◌, refl, Bool, true, false, ◌&&◌, ◌||◌, ℕ, ◌≤◌, ltb, eqb}
use Rattle.std.proofs.Common.{sym, arith}
use Rattle.std.proofs.Math.Bool.{not}
use Rattle.std.proofs.lemmas.Bool.{false≢true}
use borrow.Author.Tests.{eqb-true, eqb-false, eq-eqb, ne_eqb, ltb-false, le-ltb, leb-false}
use Rattle.refusal.specs.RefusalLaws.{both_false}
use Rattle.quorum.specs.Quorum.{most_seats, k, has, size, outside}
use Rattle.quorum.specs.QuorumLaws.{outside-false}
use Rattle.protocol.specs.Record.{InRange, Possible, wrong_size, wrong_seat, last_round, wrong_round, out_of_range, wrong_heard, names_stranger, wrong_collected, wrong_first, lacks_first, wrong_guilty, wrong_sent, wrong_kept, wrong_unset, impossible}
use Rattle.protocol.specs.declared.Record.{Record}

-- ---- ranges

pub right_size : (n : ℕ) → wrong_size n ≡ false → (1 ≤ n) × (n ≤ most_seats)
unfolding wrong_size
right_size n e =
    let two = both_false (eqb n 0) (ltb most_seats n) e in
    let some : n ≡ 0 → ⊥ = eqb-false n 0 two.0 in
    (omega arith, ltb-false most_seats n two.1)

pub right_round : (round : ℕ) → wrong_round round ≡ false → round ≤ last_round
unfolding wrong_round
right_round round e = ltb-false last_round round e

-- and the other way round
pub size_right : (n : ℕ) → 1 ≤ n → n ≤ most_seats → wrong_size n ≡ false
unfolding wrong_size
size_right n some most = rw (ne_eqb n 0 (λ e. omega arith), le-ltb most_seats n most)

pub round_right : (round : ℕ) → round ≤ last_round → wrong_round round ≡ false
unfolding wrong_round
round_right round h = le-ltb last_round round h

pub in_range : (r : Record) → out_of_range r ≡ false → InRange r.n r.seat r.round
unfolding out_of_range wrong_seat
in_range r e =
    let a = both_false (wrong_size r.n || wrong_seat r.n r.seat) (wrong_round r.round) e in
    let b = both_false (wrong_size r.n) (wrong_seat r.n r.seat) a.0 in
    let size = right_size r.n b.0 in
    record { some = size.0; most = size.1; seated = leb-false r.n r.seat b.1; dated = right_round r.round a.1 }

-- ---- from the test

then_so : (a b : Bool) → (a && not b) ≡ false → a ≡ true → b ≡ true
then_so true true e h = refl
then_so true false e h = absurd (false≢true (sym e))
then_so false b e h = absurd (false≢true h)

none_or_k : (s k : ℕ) → (not (eqb s 0) && not (eqb s k)) ≡ false → s ≤ k
none_or_k s k e = go (eqb s 0) refl
  where
    go : (b : Bool) → eqb s 0 ≡ b → s ≤ k
    go true h = omega (arith, eqb-true s 0 h)
    go false h = omega (arith, eqb-true s k (then_so true (eqb s k) (rw h at e) refl))

module _ (r : Record) (e : impossible r ≡ false) where
  parts : (out_of_range r ≡ false) × (wrong_heard r ≡ false) × (names_stranger r ≡ false) × (wrong_collected r ≡ false) × (wrong_first r ≡ false)
  unfolding impossible
  parts =
      let a = (both_false _ (wrong_unset r) e).0 in
      let j = (both_false _ (wrong_kept r) a).0 in
      let b = (both_false _ (wrong_sent r) j).0 in
      let c = (both_false _ (wrong_guilty r) b).0 in
      let d = (both_false _ (lacks_first r) c).0 in
      let f = both_false _ (wrong_first r) d in
      let g = both_false _ (wrong_collected r) f.0 in
      let h = both_false _ (names_stranger r) g.0 in
      let i = both_false (out_of_range r) (wrong_heard r) h.0 in
      (i.0, i.1, h.1, g.1, f.1)

  pub possible : Possible r
  unfolding wrong_heard names_stranger wrong_collected wrong_first
  possible =
      let all = both_false _ (outside r.n r.kept) parts.2 in
      let masks = both_false _ (outside r.n r.guilty) all.0 in
      let two = both_false (outside r.n r.own.collected) (outside r.n r.first.seats) masks.0 in
      let a = both_false _ (r.confirmed && not (eqb (size r.own.collected) (k r.n))) parts.3 in
      let b = both_false _ (eqb (size r.own.collected) (k r.n) && not r.confirmed) a.0 in
      let c = both_false _ (ltb (k r.n) (size r.own.collected)) b.0 in
      let d = both_false (not r.own.submitted && not (eqb r.own.collected 0)) (r.own.submitted && not (has r.seat r.own.collected)) c.0 in
      record {
        range = in_range r parts.0;
        heard = ltb-false 2 r.notices.heard parts.1;
        collected = (outside-false r.n r.own.collected).0 two.0;
        first = (outside-false r.n r.first.seats).0 two.1;
        guilty = (outside-false r.n r.guilty).0 masks.1;
        kept = (outside-false r.n r.kept).0 all.1;
        unsaid = λ h. eqb-true r.own.collected 0 (then_so (not r.own.submitted) (eqb r.own.collected 0) d.0 (rw h));
        few = ltb-false (k r.n) (size r.own.collected) c.1;
        complete = λ h. then_so (eqb (size r.own.collected) (k r.n)) r.confirmed b.1 (eq-eqb (size r.own.collected) (k r.n) h);
        confirmed = λ h. eqb-true (size r.own.collected) (k r.n) (then_so r.confirmed (eqb (size r.own.collected) (k r.n)) a.1 h);
        held = none_or_k (size r.first.seats) (k r.n) parts.4;
      }
