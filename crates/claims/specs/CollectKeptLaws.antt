-- Kept SUBMITs collected at the own submit: where those of k − 1 or more other seats are over the value submitted, k are collected, and
-- the unit confirms.
-- Assumes nothing.
use Rattle.std.specs.Prelude.{◌≡◌, refl, Bool, cond, ◌&&◌, List, ◌⊎◌, length}
use Rattle.std.proofs.Common.{sym, ◌∙◌, arith}
use Rattle.std.proofs.Math.Path.{ap, subst}
use Rattle.std.proofs.Math.Bool.{true, false, not, true≢false}
use Rattle.std.proofs.Math.Logic.{inl, inr, ⊎_elim}
use Prim.Native.Nat.{ℕ, zero, suc, ◌+◌, ◌≤◌, ◌<◌}
use Rattle.std.proofs.Math.Decide.{ℕ_discrete}
use Rattle.std.proofs.Math.Dec.{ltb}
use borrow.Author.Tests.{ltb-true, ltb-false, eq-eqb, not-false}
use Rattle.octets.specs.Strings.{same}
use Rattle.octets.specs.StringsLaws.{same_refl}
use Rattle.quorum.specs.Quorum.{k, bit, In, has, size, with}
use Rattle.quorum.specs.QuorumLaws.{size-within, bit_cases, bit_with_same, bit_with_other, has_true, size_with_new}
use Rattle.refusal.specs.RefusalLaws.{both_true}
use Rattle.protocol.specs.Layout.{value_length}
use Rattle.protocol.specs.Certificate.{own_certificate, kept_value, kept_signature}
use Rattle.protocol.specs.Refusals.{Checks}
use Rattle.protocol.specs.Step.{State, write, collect, set_own_value, submit_own, is_wanted, collect_if_wanted, is_open_to, collect_kept_seat, collect_kept_below, empty_kept, collect_kept, is_complete, confirm, hear_own, reply, confirm_if_complete, submitted}
use Rattle.round.specs.Round.{Relation}
use Rattle.reading.specs.ListsLaws.{cond_elim, and_false-either}
use Rattle.claims.specs.KeptPartLaws.{Aside, aside_trans, kept-value-beside, collect-aside, submit_own-aside}
use Rattle.claims.specs.Sound.{Room, Attested, Sound}
use Rattle.claims.specs.Parts.{in_below, room-leads, collect-leads, submit_own-leads, confirmed-submitted}
use Rattle.claims.specs.Whole.{hearing_stays}

module _ (checks : Checks) (W : Relation) (value signature : List ℕ) (s : State) (z : Sound checks W s.unit s.store) (room : Room s) (unsaid : s.unit.own.submitted ≡ false) (sized : length value ≡ value_length) (g : Attested checks W s.unit.seat value signature)
    (others : ℕ) (within : (t : ℕ) → In t others → In t s.unit.kept) (apart : bit s.unit.seat others ≡ 0) (agree : (t : ℕ) → In t others → kept_value s.unit.n s.store t ≡ value) (enough : k s.unit.n ≤ size others + 1) where
  abbrev n : ℕ
  n = s.unit.n

  abbrev Got : ℕ → ℕ → Type 0
  Got t collected = (size collected ≡ k n) ⊎ ((i : ℕ) → i < t → In i others → In i collected)

  -- at seat t, k are collected or all of the seats passed
  record At (t : ℕ) (e : State) : Type 0 where
    aside : Aside s e
    said : (e.unit.own.submitted ≡ true) × (e.unit.own.value ≡ value)
    unconfirmed : e.unit.confirmed ≡ false
    sound : Sound checks W e.unit e.store
    roomy : Room e
    own : In s.unit.seat e.unit.own.collected
    got : Got t e.unit.own.collected

  at_own : At 0 (submit_own value signature s)
  unfolding submit_own write collect set_own_value
  at_own =
      let a = submit_own-leads checks W value signature s z room unsaid sized g in
      record {
        aside = submit_own-aside value signature s z.range.seated (omega (arith, g.sized)) room;
        said = (refl, refl);
        unconfirmed = go s.unit.confirmed refl;
        sound = a.sound;
        roomy = room-leads checks W 0 s (submit_own value signature s) a room;
        own = bit_with_same s.unit.seat s.unit.own.collected;
        got = inr (λ i l q. absurd (omega arith));
      }
    where
      go : (b : Bool) → s.unit.confirmed ≡ b → s.unit.confirmed ≡ false
      go true q = absurd (true≢false (sym (confirmed-submitted checks W s.unit s.store z q) ∙ unsaid))
      go false q = q

  at_next : (t : ℕ) → t < n → (e : State) → At t e → At (suc t) (collect_kept_seat t e)
  unfolding collect_kept_seat collect_if_wanted is_open_to is_wanted collect
  at_next t l e h =
      let r = e.unit in
      let kv = kept_value r.n e.store t in
      let kg = kept_signature r.n e.store t in
      let c = r.own.collected in
      let few : size c ≤ k r.n = h.sound.own.collection.few in
      let is-own : In t others → same kv r.own.value ≡ true =
      λ i. rw (h.aside.n, kept-value-beside n s.store e.store h.aside.beside t, agree t i, h.said.1) (same_refl value) in
      let is-kept : In t others → has t r.kept ≡ true = λ i. (has_true t r.kept).1 (rw h.aside.kept (within t i)) in
      cond_elim (At (suc t)) (has t r.kept && ltb (size c) (k r.n)) (cond (not r.confirmed && same kv r.own.value && not (has t c)) (collect t kg e) e) e
      (λ o.
      cond_elim (At (suc t)) (not r.confirmed && same kv r.own.value && not (has t c)) (collect t kg e) e
      (λ w. taken o w)
      (λ w. passed (λ i. inr (⊎_elim
      (λ q. absurd (⊎_elim (λ p. true≢false (sym (not-false r.confirmed p) ∙ h.unconfirmed)) (λ p. true≢false (sym (is-own i) ∙ p)) (and_false-either (not r.confirmed) (same kv r.own.value) q)))
      (λ q. (has_true t c).0 (not-false (has t c) q)) (and_false-either (not r.confirmed && same kv r.own.value) (not (has t c)) w)))))
      (λ o. passed (λ i. inl (⊎_elim (λ q. absurd (true≢false (sym (is-kept i) ∙ q))) (λ q. let many = ltb-false (size c) (k r.n) q in let sized-n = ap k h.aside.n in omega arith) (and_false-either (has t r.kept) (ltb (size c) (k r.n)) o))))
    where
      -- nothing changes: the seat isn't one of them, k are collected, or it is collected already
      passed : (In t others → (size e.unit.own.collected ≡ k n) ⊎ In t e.unit.own.collected) → At (suc t) e
      passed f = record {
        aside = h.aside;
        said = h.said;
        unconfirmed = h.unconfirmed;
        sound = h.sound;
        roomy = h.roomy;
        own = h.own;
        got = ⊎_elim inl (λ before. by before (bit_cases t others)) h.got;
      }
        where
          by : ((i : ℕ) → i < t → In i others → In i e.unit.own.collected) → (bit t others ≡ 0) ⊎ In t others → Got (suc t) e.unit.own.collected
          by before (inl none) = inr (λ i l q. on i l q (ℕ_discrete i t))
            where
              on : (i : ℕ) → i < suc t → In i others → Dec (i ≡ t) → In i e.unit.own.collected
              on i l q (yes p) = absurd (let here : bit t others ≡ 1 = subst (λ (j : ℕ). In j others) p q in omega arith)
              on i l q (no p) = before i (omega arith) q
          by before (inr x) = ⊎_elim inl (λ here. inr (λ i l q. on here i l q (ℕ_discrete i t))) (f x)
            where
              on : In t e.unit.own.collected → (i : ℕ) → i < suc t → In i others → Dec (i ≡ t) → In i e.unit.own.collected
              on here i l q (yes p) = rw p here
              on here i l q (no p) = before i (omega arith) q

      taken : is_open_to t e.unit ≡ true → is_wanted t (kept_value e.unit.n e.store t) e.unit ≡ true → At (suc t) (collect t (kept_signature e.unit.n e.store t) e)
      taken o w =
          let r = e.unit in
          let both = both_true (has t r.kept) (ltb (size r.own.collected) (k r.n)) o in
          let under : size r.own.collected < k r.n = ltb-true (size r.own.collected) (k r.n) both.1 in
          let under-n : size r.own.collected < k n = subst (λ (i : ℕ). size r.own.collected < k i) h.aside.n under in
          let inside : t < r.n = rw h.aside.n l in
          let attested = h.sound.kept.attested t ((has_true t r.kept).0 both.0) in
          let kg = kept_signature r.n e.store t in
          let a = collect-leads checks W t (kept_value r.n e.store t) kg e h.sound h.roomy w h.said.0 (λ q. absurd (omega arith)) inside attested in
          record {
            aside = aside_trans s e (collect t kg e) h.aside (collect-aside t kg e inside (omega (arith, attested.sized)) h.roomy);
            said = h.said;
            unconfirmed = h.unconfirmed;
            sound = a.sound;
            roomy = room-leads checks W 0 e (collect t kg e) a h.roomy;
            own = held s.unit.seat h.own (ℕ_discrete s.unit.seat t);
            got = ⊎_elim (λ full. absurd (omega arith)) (λ before. inr (λ i j q. on before i j q (ℕ_discrete i t))) h.got;
          }
        where
          held : (i : ℕ) → In i e.unit.own.collected → Dec (i ≡ t) → In i (with t e.unit.own.collected)
          held i q (yes p) = rw p (bit_with_same t e.unit.own.collected)
          held i q (no p) = bit_with_other i t e.unit.own.collected p ∙ q

          on : ((i : ℕ) → i < t → In i others → In i e.unit.own.collected) → (i : ℕ) → i < suc t → In i others → Dec (i ≡ t) → In i (with t e.unit.own.collected)
          on before i j q (yes p) = rw p (bit_with_same t e.unit.own.collected)
          on before i j q (no p) = bit_with_other i t e.unit.own.collected p ∙ before i (omega arith) q

  at_below : (t : ℕ) → t ≤ n → At t (collect_kept_below t (submit_own value signature s))
  unfolding collect_kept_below
  at_below zero l = at_own
  at_below (suc t) l = at_next t (omega arith) (collect_kept_below t (submit_own value signature s)) (at_below t (omega arith))

  all_there : (e : State) → At n e → size e.unit.own.collected ≡ k n
  all_there e h = ⊎_elim (λ q. q) (λ f. go f) h.got
    where
      inside : ((i : ℕ) → i < n → In i others → In i e.unit.own.collected) → (t : ℕ) → In t (with s.unit.seat others) → Dec (t ≡ s.unit.seat) → In t e.unit.own.collected
      inside f t i (yes q) = rw q h.own
      inside f t i (no d) =
          let one : In t others = sym (bit_with_other t s.unit.seat others d) ∙ i in
          f t (in_below n t s.unit.kept z.kept.below (within t one)) one

      go : ((i : ℕ) → i < n → In i others → In i e.unit.own.collected) → size e.unit.own.collected ≡ k n
      go f =
          let more = size_with_new s.unit.seat others apart in
          let few = h.sound.own.collection.few in
          let few-n : size e.unit.own.collected ≤ k n = subst (λ (i : ℕ). size e.unit.own.collected ≤ k i) h.aside.n few in
          let larger = size-within e.unit.own.collected (with s.unit.seat others) (λ t i. inside f t i (ℕ_discrete t s.unit.seat)) in
          omega arith

  pub confirms_at_once : (submitted value signature s).unit.confirmed ≡ true
  unfolding submitted collect_kept empty_kept submit_own write collect set_own_value confirm_if_complete is_complete hear_own confirm
  confirms_at_once =
      let e = collect_kept_below n (submit_own value signature s) in
      let h = at_below n (omega arith) in
      let u = empty_kept e in
      let complete : is_complete u.unit ≡ true = rw h.unconfirmed (eq-eqb (size e.unit.own.collected) (k e.unit.n) (all_there e h ∙ ap k (sym h.aside.n))) in
      ap (λ (b : Bool). (cond b (hear_own (confirm u)) (reply u)).unit.confirmed) complete ∙ (hearing_stays (own_certificate (confirm u).unit (confirm u).store) (confirm u)).confirmed
