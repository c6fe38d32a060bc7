-- The machine forgets nothing: everything that came before the submission, everything collected, noticed and obtained stays, and
-- everything delivered and not discarded is added. At the submission the first SUBMIT of each seat is collected where it is of that
-- value.
-- Assumes nothing.
use Prim.Native.Nat.{ℕ, zero, suc, ◌<◌}
use Rattle.std.specs.Prelude.{◌≡◌, Bool, false, ◌&&◌, eqb}
use Rattle.std.proofs.Math.Path.{refl, sym, ap, subst}
use Rattle.std.proofs.Common.{◌∙◌, arith}
use Rattle.std.proofs.Math.Bool.{true, cond, not}
use Rattle.std.proofs.lemmas.Bool.{false≢true}
use mathlib.Core.List.Memᴰ
use mathlib.Core.List.{List, [], ◌∷◌, ◌++◌, Memᴰ}
use Rattle.std.proofs.Math.Logic.{⊎_elim}
use Rattle.std.proofs.Math.Option.{Option, none, some}
use Rattle.std.proofs.Math.Decide.{ℕ_discrete}
use borrow.Author.Tests.{eqb-true, not-false}
use Rattle.octets.specs.Strings.{same}
use Rattle.octets.specs.StringsLaws.{same_refl}
use Rattle.refusal.specs.RefusalLaws.{both_true}
use Rattle.protocol.specs.Message.{Entry, Signed}
use Rattle.protocol.specs.Refusals.{Checks}
use Rattle.round.specs.Round.{Each}
use Rattle.reading.specs.ListsLaws.{cond_elim, or_true-either}
use Rattle.paper.specs.Machine.{FullCertificate, Machine, Event, Submitted, SubmitDelivered, NoticeDelivered, FullDelivered, BroadcastSubmit, ConfirmAndNotice, Reaction, act, set_value, set_confirmed, add_collected, add_early, is_some, is_own, own_value, is_from, first_from, is_full_certificate, own_full, is_collected, collecting, keeping, upon_submit_delivered, taking_up, taking_up_below, upon_submit, upon_notice_delivered, obtain, upon_full_delivered, confirming, upon_quorum, sending, upon_notices_conflict, detecting, upon_fulls_conflict, upon_event, upon_rules, react}
use Rattle.paper.specs.EntriesLaws.{from_member, first_in_lem}
use Rattle.paper.specs.Rules.{quorum_due, notices_due, fulls_elim}

pub record Remembers (m m' : Machine) : Type 0 where
  pub early : Each (λ (e : Signed). Memᴰ e m'.early) m.early
  pub collected : Each (λ (e : Entry). Memᴰ e m'.collected) m.collected
  pub noticed : Each (λ (v : List ℕ). Memᴰ v m'.noticed) m.noticed
  pub obtained : Each (λ (c : FullCertificate). Memᴰ c m'.obtained) m.obtained

remembers_refl : (m : Machine) → Remembers m m
remembers_refl m = record { early = λ a d. d; collected = λ a d. d; noticed = λ a d. d; obtained = λ a d. d }

remembers_trans : (a b c : Machine) → Remembers a b → Remembers b c → Remembers a c
remembers_trans a b c p q = record {
  early = λ e d. q.early e (p.early e d);
  collected = λ e d. q.collected e (p.collected e d);
  noticed = λ v d. q.noticed v (p.noticed v d);
  obtained = λ f d. q.obtained f (p.obtained f d);
}

module _ (checks : Checks) (n own : ℕ) where
  collecting_remembers : (s : ℕ) (v g : List ℕ) (x : Reaction) → Remembers x.machine (collecting checks n own s v g x).machine
  unfolding collecting
  collecting_remembers s v g x =
      let e : Entry = record { seat = s; signature = g } in
      cond_elim (λ y. Remembers x.machine y.machine) (is_collected checks n own s v g x.machine) (add_collected e x) x
      (λ h. record { early = λ a d. d; collected = λ a d. Memᴰ.append_left (e ∷ []) d; noticed = λ a d. d; obtained = λ a d. d }) (λ h. remembers_refl x.machine)

  keeping_remembers : (s : ℕ) (v g : List ℕ) (x : Reaction) → Remembers x.machine (keeping checks n own s v g x).machine
  unfolding keeping
  keeping_remembers s v g x =
      let e : Signed = record { seat = s; value = v; signature = g } in
      cond_elim (λ y. Remembers x.machine y.machine) (checks s v g) (add_early e x) x
      (λ h. record { early = λ a d. Memᴰ.append_left (e ∷ []) d; collected = λ a d. d; noticed = λ a d. d; obtained = λ a d. d }) (λ h. remembers_refl x.machine)

  submit_remembers : (s : ℕ) (v g : List ℕ) (x : Reaction) → Remembers x.machine (upon_submit_delivered checks n own s v g x).machine
  unfolding upon_submit_delivered
  submit_remembers s v g x =
      cond_elim (λ y. Remembers x.machine y.machine) (is_some x.machine.value) (collecting checks n own s v g x) (keeping checks n own s v g x) (λ h. collecting_remembers s v g x)
      (λ h. keeping_remembers s v g x)

  taking_remembers : (o : Option Signed) (x : Reaction) → Remembers x.machine (taking_up checks n own o x).machine
  unfolding taking_up
  taking_remembers none x = remembers_refl x.machine
  taking_remembers (some e) x = collecting_remembers e.seat e.value e.signature x

  below_remembers : (t : ℕ) (early : List Signed) (x : Reaction) → Remembers x.machine (taking_up_below checks n own t early x).machine
  unfolding taking_up_below
  below_remembers zero early x = remembers_refl x.machine
  below_remembers (suc t) early x =
      let y = taking_up_below checks n own t early x in
      remembers_trans x.machine y.machine (taking_up checks n own (first_from t early) y).machine (below_remembers t early x) (taking_remembers (first_from t early) y)

  own_remembers : (v g : List ℕ) (x : Reaction) → Remembers x.machine (upon_submit checks n own v g x).machine
  unfolding upon_submit act
  own_remembers v g x =
      let y = act (BroadcastSubmit v g) (set_value v x) in
      let z = collecting checks n own own v g y in
      let after = remembers_trans y.machine z.machine (taking_up_below checks n own n x.machine.early z).machine (collecting_remembers own v g y) (below_remembers n x.machine.early z) in
      record { early = after.early; collected = after.collected; noticed = after.noticed; obtained = after.obtained }

  notice_remembers : (v : List ℕ) (x : Reaction) → Remembers x.machine (upon_notice_delivered checks n own v x).machine
  unfolding upon_notice_delivered
  notice_remembers v x = record { early = λ a d. d; collected = λ a d. d; noticed = λ a d. Memᴰ.append_left (v ∷ []) d; obtained = λ a d. d }

  obtain_remembers : (c : FullCertificate) (x : Reaction) → Remembers x.machine (obtain checks n own c x).machine
  unfolding obtain upon_notice_delivered
  obtain_remembers c x = record { early = λ a d. d; collected = λ a d. d; noticed = λ a d. Memᴰ.append_left (c.value ∷ []) d; obtained = λ a d. Memᴰ.append_left (c ∷ []) d }

  full_remembers : (c : FullCertificate) (x : Reaction) → Remembers x.machine (upon_full_delivered checks n own c x).machine
  unfolding upon_full_delivered
  full_remembers c x =
      cond_elim (λ y. Remembers x.machine y.machine) (is_full_certificate checks n own c) (obtain checks n own c x) x (λ h. obtain_remembers c x)
      (λ h. remembers_refl x.machine)

  quorum_remembers : (x : Reaction) → Remembers x.machine (upon_quorum checks n own x).machine
  unfolding upon_quorum confirming act
  quorum_remembers x =
      cond_elim (λ y. Remembers x.machine y.machine) (quorum_due n x.machine) (confirming checks n own x) x
      (λ h.
      let after = obtain_remembers (own_full checks n own x.machine) (act (ConfirmAndNotice (own_value x.machine.value)) (set_confirmed x)) in
      record { early = after.early; collected = after.collected; noticed = after.noticed; obtained = after.obtained })
      (λ h. remembers_refl x.machine)

  notices_remember : (x : Reaction) → Remembers x.machine (upon_notices_conflict checks n own x).machine
  unfolding upon_notices_conflict sending act
  notices_remember x =
      cond_elim (λ y. Remembers x.machine y.machine) (notices_due x.machine) (sending checks n own x) x
      (λ h. record { early = λ a d. d; collected = λ a d. d; noticed = λ a d. d; obtained = λ a d. d }) (λ h. remembers_refl x.machine)

  fulls_remember : (x : Reaction) → Remembers x.machine (upon_fulls_conflict checks n own x).machine
  unfolding detecting act
  fulls_remember x =
      fulls_elim checks n own (λ y. Remembers x.machine y.machine) x (remembers_refl x.machine)
      (λ c d y i j e p. record { early = p.early; collected = p.collected; noticed = p.noticed; obtained = p.obtained })

  rules_remember : (x : Reaction) → Remembers x.machine (upon_rules checks n own x).machine
  unfolding upon_rules
  rules_remember x =
      let a = upon_quorum checks n own x in
      let b = upon_notices_conflict checks n own a in
      remembers_trans x.machine a.machine (upon_rules checks n own x).machine (quorum_remembers x)
      (remembers_trans a.machine b.machine (upon_rules checks n own x).machine (notices_remember a) (fulls_remember b))

  event_remembers : (e : Event) (x : Reaction) → Remembers x.machine (upon_event checks n own e x).machine
  unfolding upon_event
  event_remembers (Submitted v g) x = own_remembers v g x
  event_remembers (SubmitDelivered s v g) x = submit_remembers s v g x
  event_remembers (NoticeDelivered v) x = notice_remembers v x
  event_remembers (FullDelivered c) x = full_remembers c x

  -- ---- at every event

  pub react_remembers : (e : Event) (m : Machine) → Remembers m (react checks n own e m).machine
  unfolding react
  react_remembers e m =
      let x : Reaction = record { machine = m; actions = [] } in
      remembers_trans m (upon_event checks n own e x).machine (react checks n own e m).machine (event_remembers e x) (rules_remember (upon_event checks n own e x))

  -- ---- additions at a delivery

  -- a SUBMIT is collected after the submission only
  collected-said : (s : ℕ) (v g : List ℕ) (m : Machine) → is_collected checks n own s v g m ≡ true → is_some m.value ≡ true
  unfolding is_collected is_own is_some
  collected-said s v g m h = go m.value (both_true (checks s v g) (is_own v m.value) (both_true (checks s v g && is_own v m.value) (not (is_from s m.collected)) h).0).1
    where
      go : (o : Option (List ℕ)) → is_own v o ≡ true → is_some o ≡ true
      go none e = e
      go (some w) e = refl

  none_said : (m : Machine) → m.value ≡ none → is_some m.value ≡ false
  unfolding is_some
  none_said m e = ap is_some e

  -- a SUBMIT before the submission, properly signed
  pub early-added : (s : ℕ) (v g : List ℕ) (m : Machine) → m.value ≡ none → checks s v g ≡ true
      → Memᴰ (record { seat = s; value = v; signature = g }) (react checks n own (SubmitDelivered s v g) m).machine.early
  unfolding react upon_event upon_submit_delivered keeping
  early-added s v g m unsaid h =
      let x : Reaction = record { machine = m; actions = [] } in
      let e : Signed = record { seat = s; value = v; signature = g } in
      rw (none_said m unsaid, h) ((rules_remember (add_early e x)).early e (Memᴰ.append_right m.early (Memᴰ.head refl)))

  pub submit-added : (s : ℕ) (v g : List ℕ) (m : Machine) → is_collected checks n own s v g m ≡ true → Memᴰ (record { seat = s; signature = g }) (react checks n own (SubmitDelivered s v g) m).machine.collected
  unfolding react upon_event upon_submit_delivered collecting
  submit-added s v g m h =
      let x : Reaction = record { machine = m; actions = [] } in
      let e : Entry = record { seat = s; signature = g } in
      rw (collected-said s v g m h, h) ((rules_remember (add_collected e x)).collected e (Memᴰ.append_right m.collected (Memᴰ.head refl)))

  pub notice-added : (v : List ℕ) (m : Machine) → Memᴰ v (react checks n own (NoticeDelivered v) m).machine.noticed
  unfolding react upon_event upon_notice_delivered
  notice-added v m =
      let x : Reaction = record { machine = m; actions = [] } in
      (rules_remember (upon_notice_delivered checks n own v x)).noticed v (Memᴰ.append_right m.noticed (Memᴰ.head refl))

  pub full-added : (c : FullCertificate) (m : Machine) → is_full_certificate checks n own c ≡ true → Memᴰ c (react checks n own (FullDelivered c) m).machine.obtained
  unfolding react upon_event upon_full_delivered obtain upon_notice_delivered
  full-added c m h =
      let x : Reaction = record { machine = m; actions = [] } in
      subst (λ (b : Bool). Memᴰ c (upon_rules checks n own (cond b (obtain checks n own c x) x)).machine.obtained) (sym h)
      ((rules_remember (obtain checks n own c x)).obtained c (Memᴰ.append_right m.obtained (Memᴰ.head refl)))

  -- ---- additions at the submission

  -- a SUBMIT taken up at the submission is delivered then
  pub taken_up_as_delivered : (e : Signed) (x : Reaction) → is_some x.machine.value ≡ true → taking_up checks n own (some e) x ≡ upon_submit_delivered checks n own e.seat e.value e.signature x
  unfolding taking_up upon_submit_delivered
  taken_up_as_delivered e x said =
      sym (ap (λ (b : Bool). cond b (collecting checks n own e.seat e.value e.signature x) (keeping checks n own e.seat e.value e.signature x)) said)

  from_remembered : (s : ℕ) (es es' : List Entry) → Each (λ (e : Entry). Memᴰ e es') es → is_from s es ≡ true → is_from s es' ≡ true
  unfolding is_from
  from_remembered s [] es' stay h = absurd (false≢true h)
  from_remembered s (e ∷ es) es' stay h =
      ⊎_elim (λ q. subst (λ (t : ℕ). is_from t es' ≡ true) (eqb-true e.seat s q) (from_member e es' (stay e (Memᴰ.head refl)))) (λ q. from_remembered s es es' (λ a d. stay a (Memᴰ.tail d)) q)
      (or_true-either (eqb e.seat s) (is_from s es) h)

  -- one that is properly signed and of the own value: the seat is there, or it is added
  collecting_from : (s : ℕ) (v g : List ℕ) (x : Reaction) → checks s v g ≡ true → is_own v x.machine.value ≡ true → is_from s (collecting checks n own s v g x).machine.collected ≡ true
  unfolding collecting is_collected
  collecting_from s v g x signed mine =
      let e : Entry = record { seat = s; signature = g } in
      cond_elim (λ y. is_from s y.machine.collected ≡ true) (checks s v g && is_own v x.machine.value && not (is_from s x.machine.collected)) (add_collected e x) x
      (λ h. from_member e (x.machine.collected ++ e ∷ []) (Memᴰ.append_right x.machine.collected (Memᴰ.head refl)))
      (λ h. not-false (is_from s x.machine.collected) (rw (signed, mine) at h))

  collecting-value : (s : ℕ) (v g : List ℕ) (x : Reaction) → (collecting checks n own s v g x).machine.value ≡ x.machine.value
  unfolding collecting
  collecting-value s v g x =
      cond_elim (λ y. y.machine.value ≡ x.machine.value) (is_collected checks n own s v g x.machine) (add_collected (record { seat = s; signature = g }) x) x (λ h. refl) (λ h. refl)

  taking_value : (o : Option Signed) (x : Reaction) → (taking_up checks n own o x).machine.value ≡ x.machine.value
  unfolding taking_up
  taking_value none x = refl
  taking_value (some e) x = collecting-value e.seat e.value e.signature x

  below-value : (t : ℕ) (early : List Signed) (x : Reaction) → (taking_up_below checks n own t early x).machine.value ≡ x.machine.value
  unfolding taking_up_below
  below-value zero early x = refl
  below-value (suc t) early x = taking_value (first_from t early) (taking_up_below checks n own t early x) ∙ below-value t early x

  module _ (early : List Signed) (s : ℕ) (e : Signed) (first : first_from s early ≡ some e) (signed : checks e.seat e.value e.signature ≡ true) (x : Reaction) (mine : is_own e.value x.machine.value ≡ true) where
    below_from : (t : ℕ) → s < t → is_from s (taking_up_below checks n own t early x).machine.collected ≡ true
    unfolding taking_up_below taking_up
    below_from zero l = absurd (omega arith)
    below_from (suc t) l = go (ℕ_discrete s t) (λ below. below_from t below)
      where
        go : Dec (s ≡ t) → (s < t → is_from s (taking_up_below checks n own t early x).machine.collected ≡ true) → is_from s (taking_up checks n own (first_from t early) (taking_up_below checks n own t early x)).machine.collected ≡ true
        go (yes q) rest =
            let y = taking_up_below checks n own t early x in
            let own-one : is_own e.value y.machine.value ≡ true = ap (is_own e.value) (below-value t early x) ∙ mine in
            let here : first_from t early ≡ some e = subst (λ (i : ℕ). first_from i early ≡ some e) q first in
            subst (λ (o : Option Signed). is_from s (taking_up checks n own o y).machine.collected ≡ true) (sym here)
            (subst (λ (i : ℕ). is_from i (collecting checks n own e.seat e.value e.signature y).machine.collected ≡ true) (first_in_lem s early e first).1 (collecting_from e.seat e.value e.signature y signed own-one))
        go (no d) rest =
            let y = taking_up_below checks n own t early x in
            from_remembered s y.machine.collected (taking_up checks n own (first_from t early) y).machine.collected (taking_remembers (first_from t early) y).collected (rest (omega arith))

  -- the first SUBMIT of a seat before the submission, where it is of the value submitted: "P_j ∈ from_i"
  pub early-collected : (v g : List ℕ) (m : Machine) (s : ℕ) (e : Signed) → s < n → first_from s m.early ≡ some e → e.value ≡ v → checks e.seat e.value e.signature ≡ true
      → is_from s (react checks n own (Submitted v g) m).machine.collected ≡ true
  unfolding react upon_event upon_submit act is_own
  early-collected v g m s e l first q signed =
      let x : Reaction = record { machine = m; actions = [] } in
      let y = act (BroadcastSubmit v g) (set_value v x) in
      let z = collecting checks n own own v g y in
      let said : z.machine.value ≡ some v = collecting-value own v g y in
      let all = taking_up_below checks n own n m.early z in
      from_remembered s all.machine.collected (upon_rules checks n own all).machine.collected (rules_remember all).collected
      (below_from m.early s e first signed z (ap (is_own e.value) said ∙ ap (λ (w : List ℕ). same w v) q ∙ same_refl v) n l)
