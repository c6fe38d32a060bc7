-- A whole submit and a whole step, from the laws of their parts.
-- Assumes nothing.
use Rattle.std.specs.Prelude.{◌≡◌, false, cond, not, ◌&&◌, List, ℕ, ◌<◌, eqb, length}
use Rattle.std.proofs.Math.Path.{refl}
use Rattle.std.proofs.Common.{sym, ap, ◌∙◌, true≢false, arith}
use Rattle.std.proofs.Math.Bool.{true, and-false}
use Rattle.std.proofs.Math.Logic.{⊎_elim}
use borrow.Author.Tests.{eqb-true, eqb-false, not-true, not-false}
use Rattle.octets.specs.Strings.{same}
use Rattle.quorum.specs.Quorum.{k, has, size}
use Rattle.refusal.specs.RefusalLaws.{both_true}
use Rattle.protocol.specs.Layout.{value_length}
use Rattle.protocol.specs.Message.{Entry, Message, Submit, Notice, Full, Evidence, Garbled}
use Rattle.protocol.specs.Certificate.{Certificate, own_certificate, certificate_of, certificate_in}
use Rattle.protocol.specs.Record.{none_heard, one_heard, holds}
use Rattle.protocol.specs.Refusals.{Checks, is_full, is_evidence}
use Rattle.protocol.specs.Step.{State, write, collect, set_own_value, submit_own, is_wanted, collect_if_wanted, keep, keep_if_first, hear_submit, collect_kept, hear, other_heard, owes_full, send_full, reply, hold, blame, blames, hold_or_blame, hear_certificate, is_complete, confirm, hear_own, confirm_if_complete, submitted, stepped}
use Rattle.protocol.specs.declared.Record.{Record}
use Rattle.round.specs.Round.{Relation}
use Rattle.round.specs.Demand1.{is_submit, is_notice, worth}
use Rattle.reading.specs.ListsLaws.{cond_elim, and_false-either}
use Rattle.claims.specs.Sound.{Heard, Held, Grows, Room, Settled, Attested, Certifies, Entries, Sound, Leads}
use Rattle.claims.specs.CertificatesLaws.{certifies_of}
use Rattle.claims.specs.KeptLaws.{keep-leads, collect_kept-leads, collect_kept-confirmed, collect_kept-emptied}
use Rattle.claims.specs.PacksLaws.{counts-other}
use Rattle.claims.specs.Parts.{k_pos, held-grows, room-leads, leads_trans, leads_writing, leads-refl, collect-leads, submit_own-leads, hear-leads, hear-heard, reply-leads, hold_or_blame-leads, hold_or_blame-held, own-certifies, collected-submitted, confirmed-submitted}

-- ---- parts of a record that hearing leaves as they are

pub record Stays (r r' : Record) : Type 0 where
  pub own : r'.own ≡ r.own
  pub confirmed : r'.confirmed ≡ r.confirmed
  pub kept : r'.kept ≡ r.kept

stays_trans : (r r' r'' : Record) → Stays r r' → Stays r' r'' → Stays r r''
stays_trans r r' r'' a b = record { own = b.own ∙ a.own; confirmed = b.confirmed ∙ a.confirmed; kept = b.kept ∙ a.kept }

pub reply-stays : (s : State) → Stays s.unit (reply s).unit
unfolding reply send_full write
reply-stays s =
    cond_elim (λ x. Stays s.unit x.unit) (owes_full s.unit) (send_full s) s (λ e. record { own = refl; confirmed = refl; kept = refl }) (λ e. record { own = refl; confirmed = refl; kept = refl })

-- the same, and whether FULL is owed
pub record Quiet (r r' : Record) : Type 0 where
  pub stays : Stays r r'
  pub owes : owes_full r' ≡ owes_full r

hold_or_blame-quiet : (c : Certificate) (s : State) → Quiet s.unit (hold_or_blame c s).unit
unfolding hold_or_blame hold blame write owes_full other_heard none_heard one_heard
hold_or_blame-quiet c s =
    let P : State → Type 0 = λ x. Quiet s.unit x.unit in
    let still : Stays s.unit s.unit = record { own = refl; confirmed = refl; kept = refl } in
    cond_elim P (holds s.unit) (cond (blames c s.unit) (blame c s) s) (hold c s)
    (λ h. cond_elim P (blames c s.unit) (blame c s) s (λ e. record { stays = record { own = refl; confirmed = refl; kept = refl }; owes = refl }) (λ e. record { stays = still; owes = refl }))
    (λ h. record { stays = record { own = refl; confirmed = refl; kept = refl }; owes = refl })

-- no FULL is owed after a reply
reply-owes : (s : State) → owes_full (reply s).unit ≡ false
unfolding reply send_full write owes_full
reply-owes s =
    cond_elim (λ x. owes_full x.unit ≡ false) (owes_full s.unit) (send_full s) s (λ e. rw and-false) (λ e. e)

hear-stays : (value : List ℕ) (s : State) → Stays s.unit (hear value s).unit
unfolding hear
hear-stays value s = record { own = refl; confirmed = refl; kept = refl }

pub hearing_stays : (c : Certificate) (s : State) → Stays s.unit (hear_certificate c s).unit
unfolding hear_certificate
hearing_stays c s =
    let heard = hear c.value s in
    stays_trans s.unit (reply heard).unit (hear_certificate c s).unit (stays_trans s.unit heard.unit (reply heard).unit (hear-stays c.value s) (reply-stays heard))
    (hold_or_blame-quiet c (reply heard)).stays

-- a step never submits
hears-stays : (seat : ℕ) (value signature : List ℕ) (s : State) → (hear_submit seat value signature s).unit.own.submitted ≡ s.unit.own.submitted
unfolding hear_submit collect_if_wanted keep_if_first collect keep
hears-stays seat value signature s =
    let P : State → Type 0 = λ x. x.unit.own.submitted ≡ s.unit.own.submitted in
    cond_elim P s.unit.own.submitted (collect_if_wanted seat value signature s) (keep_if_first seat value signature s)
    (λ e. cond_elim P (is_wanted seat value s.unit) (collect seat signature s) s (λ f. refl) (λ f. refl))
    (λ e. cond_elim P (has seat s.unit.kept) s (keep seat value signature s) (λ f. refl) (λ f. refl))

completing_stays : (s : State) → (confirm_if_complete s).unit.own ≡ s.unit.own
unfolding confirm_if_complete hear_own confirm write
completing_stays s =
    cond_elim (λ (x : State). x.unit.own ≡ s.unit.own) (is_complete s.unit) (hear_own (confirm s)) (reply s)
    (λ e. (hearing_stays (own_certificate (confirm s).unit (confirm s).store) (confirm s)).own) (λ e. (reply-stays s).own)

pub step-submits_none : (m : Message) (s : State) → (stepped m s).unit.own.submitted ≡ s.unit.own.submitted
unfolding stepped
step-submits_none (Submit ρ seat value signature) s =
    ap (λ o. o.submitted) (completing_stays (hear_submit seat value signature s)) ∙ hears-stays seat value signature s
step-submits_none (Notice ρ seat value) s = ap (λ o. o.submitted) ((reply-stays (hear value s)).own ∙ (hear-stays value s).own)
step-submits_none (Full ρ sender value entries) s = ap (λ o. o.submitted) (hearing_stays (certificate_in (Full ρ sender value entries)) s).own
step-submits_none (Evidence ρ form entries) s = refl
step-submits_none Garbled s = refl

hearing_owes : (c : Certificate) (s : State) → owes_full (hear_certificate c s).unit ≡ false
unfolding hear_certificate
hearing_owes c s = (hold_or_blame-quiet c (reply (hear c.value s))).owes ∙ reply-owes (hear c.value s)

submit_own-confirmed : (value signature : List ℕ) (s : State) → (submit_own value signature s).unit.confirmed ≡ s.unit.confirmed
unfolding submit_own write collect set_own_value
submit_own-confirmed value signature s = refl

-- where a unit has confirmed, a certificate is held; it has the own value, or the seats that it shares with the own one are guilty
abbrev OwnHeld : Record → Type 0
OwnHeld r = r.confirmed ≡ true → Held r.own.value r.own.collected r

collect-held : (seat : ℕ) (value signature : List ℕ) (s : State) → is_wanted seat value s.unit ≡ true → OwnHeld (collect seat signature s).unit
unfolding collect is_wanted
collect-held seat value signature s wanted e =
    let r = s.unit in
    let front = (both_true (not r.confirmed && same value r.own.value) (not (has seat r.own.collected)) wanted).0 in
    absurd (true≢false (sym e ∙ not-true r.confirmed (both_true (not r.confirmed) (same value r.own.value) front).0))

keep-held : (seat : ℕ) (value signature : List ℕ) (s : State) → OwnHeld s.unit → OwnHeld (keep seat value signature s).unit
unfolding keep
keep-held seat value signature s held = held

-- after a submission no seat is kept
abbrev NoneKept : Record → Type 0
NoneKept r = r.own.submitted ≡ true → r.kept ≡ 0

none_stays : (r r' : Record) → Stays r r' → NoneKept r → NoneKept r'
none_stays r r' t none e = t.kept ∙ none (sym (ap (λ o. o.submitted) t.own) ∙ e)

collect_none : (seat : ℕ) (signature : List ℕ) (s : State) → NoneKept s.unit → NoneKept (collect seat signature s).unit
unfolding collect
collect_none seat signature s none = none

keep_none : (seat : ℕ) (value signature : List ℕ) (s : State) → s.unit.own.submitted ≡ false → NoneKept (keep seat value signature s).unit
unfolding keep
keep_none seat value signature s unsaid e = absurd (true≢false (sym e ∙ unsaid))

module _ (checks : Checks) (W : Relation) where
  -- ---- a certificate heard

  module _ (c : Certificate) (s : State) (z : Sound checks W s.unit s.store) (room : Room s) (y : Certifies checks W s.unit.n c) where
    heard-leads : Leads checks W 0 s (reply (hear c.value s))
    heard-leads =
        let a = hear-leads checks W c.value s y.sized z in
        leads_trans checks W 0 0 s (hear c.value s) (reply (hear c.value s)) a (reply-leads checks W (hear c.value s) a.sound)

    heard-certifies : Certifies checks W (reply (hear c.value s)).unit.n c
    heard-certifies = rw heard-leads.grows.n y

    heard-room : Room (reply (hear c.value s))
    heard-room = room-leads checks W 0 s (reply (hear c.value s)) heard-leads room

    hearing_leads : Leads checks W 1 s (hear_certificate c s)
    unfolding hear_certificate
    hearing_leads =
        leads_trans checks W 0 1 s (reply (hear c.value s)) (hear_certificate c s) heard-leads (hold_or_blame-leads checks W c (reply (hear c.value s)) heard-leads.sound heard-room heard-certifies)

    hearing_held : Held c.value c.seats (hear_certificate c s).unit
    unfolding hear_certificate
    hearing_held = hold_or_blame-held checks W c (reply (hear c.value s)) heard-leads.sound heard-room heard-certifies

  -- ---- at the end of a call

  pub record Done (s s' : State) : Type 0 where
    pub leads : Leads checks W 1 s s'
    pub settled : Settled s'.unit

  -- a record stays settled where own value, collected seats, confirmed and kept seats stay
  settled-stays : (r r' : Record) → Grows r r' → Stays r r' → owes_full r' ≡ false → (size r.own.collected ≡ k r.n → r.confirmed ≡ true) → OwnHeld r → NoneKept r → Settled r'
  settled-stays r r' g t owes complete held none = record {
    complete = λ e. t.confirmed ∙ complete (sym (ap (λ o. size o.collected) t.own) ∙ e ∙ ap k g.n);
    holds = λ e. rw t.own (held-grows r.own.value r.own.collected r r' g (held (sym t.confirmed ∙ e)));
    owes = owes;
    emptied = none_stays r r' t none;
  }

  module _ (s : State) (z : Sound checks W s.unit s.store) (room : Room s) where
    confirm-leads : is_complete s.unit ≡ true → Leads checks W 0 s (confirm s)
    unfolding confirm write is_complete is_submit is_notice is_full is_evidence worth
    confirm-leads e =
        let r = s.unit in
        let both = both_true (not r.confirmed) (eqb (size r.own.collected) (k r.n)) e in
        let full = eqb-true (size r.own.collected) (k r.n) both.1 in
        let pos = k_pos r.n z.range.some in
        leads_writing checks W 0 s (confirm s) (Notice r.round r.seat r.own.value)
        (record {
          range = z.range;
          own = z.own;
          heard = z.heard;
          first = z.first;
          flags = record { full = λ q. full; confirmed = λ q. refl };
          kept = z.kept;
        })
        refl
        (record { n = refl; seat = refl; round = refl; said = λ q. (q, refl); heard = λ v h. h; first = λ h. refl; guilty = λ t i. i })
        refl
        (omega arith)
        (record { of_round = refl; of_seat = refl; of_value = refl; submitted = collected-submitted checks W r s.store z (omega arith); sized = z.own.collection.sized })
        (counts-other r (confirm s).unit (Notice r.round r.seat r.own.value) refl refl (omega arith) (rw (not-true r.confirmed both.0)) (omega arith))

    complete-size : is_complete s.unit ≡ true → size s.unit.own.collected ≡ k s.unit.n
    unfolding is_complete
    complete-size e =
        eqb-true (size s.unit.own.collected) (k s.unit.n) (both_true (not s.unit.confirmed) (eqb (size s.unit.own.collected) (k s.unit.n)) e).1

    confirm-size : is_complete s.unit ≡ true → size (confirm s).unit.own.collected ≡ k (confirm s).unit.n
    unfolding confirm write
    confirm-size e = complete-size e

    confirm-confirmed : (confirm s).unit.confirmed ≡ true
    unfolding confirm write
    confirm-confirmed = refl

    confirm_none : NoneKept s.unit → NoneKept (confirm s).unit
    unfolding confirm write
    confirm_none none = none

    confirmed-done : is_complete s.unit ≡ true → NoneKept s.unit → Done s (hear_own (confirm s))
    unfolding hear_own own_certificate
    confirmed-done e none =
        let t = confirm s in
        let c = own_certificate t.unit t.store in
        let a = confirm-leads e in
        let y : Certifies checks W t.unit.n c = own-certifies checks W t.unit t.store a.sound (confirm-size e) in
        let roomy = room-leads checks W 0 s t a room in
        let b = hearing_leads c t a.sound roomy y in
        let stays = hearing_stays c t in
        record {
          leads = leads_trans checks W 0 1 s t (hear_own t) a b;
          settled = record {
            complete = λ q. stays.confirmed ∙ confirm-confirmed;
            holds = λ q. rw stays.own (hearing_held c t a.sound roomy y);
            owes = hearing_owes c t;
            emptied = none_stays t.unit (hear_own t).unit stays (confirm_none none);
          };
        }

    unconfirmed-done : is_complete s.unit ≡ false → OwnHeld s.unit → NoneKept s.unit → Done s (reply s)
    unfolding is_complete
    unconfirmed-done e held none =
        let r = s.unit in
        let a = reply-leads checks W s z in
        let complete : size r.own.collected ≡ k r.n → r.confirmed ≡ true =
        λ q. ⊎_elim (not-false r.confirmed) (λ p. absurd (eqb-false (size r.own.collected) (k r.n) p q)) (and_false-either (not r.confirmed) (eqb (size r.own.collected) (k r.n)) e) in
        record { leads = leads_trans checks W 0 1 s (reply s) (reply s) a (leads-refl checks W (reply s) a.sound 1); settled = settled-stays r (reply s).unit a.grows (reply-stays s) (reply-owes s) complete held none }

    confirm_if_complete-done : OwnHeld s.unit → NoneKept s.unit → Done s (confirm_if_complete s)
    unfolding confirm_if_complete
    confirm_if_complete-done held none =
        cond_elim (Done s) (is_complete s.unit) (hear_own (confirm s)) (reply s) (λ e. confirmed-done e none) (λ e. unconfirmed-done e held none)

  -- a part of a call, and then the confirmation where k seats are collected
  then_done : (s s' : State) → Leads checks W 0 s s' → Room s → OwnHeld s'.unit → NoneKept s'.unit → Done s (confirm_if_complete s')
  then_done s s' a room held none =
      let b = confirm_if_complete-done s' a.sound (room-leads checks W 0 s s' a room) held none in
      record { leads = leads_trans checks W 0 1 s s' (confirm_if_complete s') a b.leads; settled = b.settled }

  -- ---- submit and step

  module _ (value signature : List ℕ) (s : State) (z : Sound checks W s.unit s.store) (room : Room s) (unsaid : s.unit.own.submitted ≡ false) (sized : length value ≡ value_length) (g : Attested checks W s.unit.seat value signature) where
    abbrev own : State
    own = submit_own value signature s

    own-leads : Leads checks W 0 s own
    own-leads = submit_own-leads checks W value signature s z room unsaid sized g

    own_room : Room own
    own_room = room-leads checks W 0 s own own-leads room

    own-said : own.unit.own.submitted ≡ true
    unfolding submit_own write collect set_own_value
    own-said = refl

    unconfirmed : (collect_kept own).unit.confirmed ≡ true → ⊥
    unconfirmed q =
        true≢false (sym (confirmed-submitted checks W s.unit s.store z (sym (collect_kept-confirmed own ∙ submit_own-confirmed value signature s) ∙ q)) ∙ unsaid)

    own-done : Done own (submitted value signature s)
    unfolding submitted
    own-done = then_done own (collect_kept own) (collect_kept-leads checks W own own-leads.sound own_room own-said) own_room (λ q. absurd (unconfirmed q)) (λ q. collect_kept-emptied own)

    pub submitted-done : Done s (submitted value signature s)
    submitted-done = record { leads = leads_trans checks W 0 1 s own (submitted value signature s) own-leads own-done.leads; settled = own-done.settled }

    -- "the value kept"
    pub submitted-value : ((submitted value signature s).unit.own.submitted ≡ true) × ((submitted value signature s).unit.own.value ≡ value)
    unfolding submit_own write collect set_own_value
    submitted-value = own-done.leads.grows.said refl

  -- facts about a message that a step doesn't refuse
  abbrev pub Brings : Record → Message → Type 0
  Brings r (Submit ρ seat value signature) = (seat < r.n) × (length value ≡ value_length) × Attested checks W seat value signature
  Brings r (Notice ρ seat value) = length value ≡ value_length
  Brings r (Full ρ sender value entries) = Entries checks W r.n value entries
  Brings r (Evidence ρ form entries) = Unit {0}
  Brings r Garbled = Unit {0}

  module _ (s : State) (z : Sound checks W s.unit s.store) (room : Room s) (e : Settled s.unit) where
    -- a SUBMIT heard after the own submit
    wanted-done : (seat : ℕ) (value signature : List ℕ) → s.unit.own.submitted ≡ true → seat < s.unit.n → Attested checks W seat value signature → Done s (confirm_if_complete (collect_if_wanted seat value signature s))
    unfolding collect_if_wanted
    wanted-done seat value signature submitted inside g =
        cond_elim (λ x. Done s (confirm_if_complete x)) (is_wanted seat value s.unit) (collect seat signature s) s
        (λ w. then_done s (collect seat signature s) (collect-leads checks W seat value signature s z room w submitted e.complete inside g) room (collect-held seat value signature s w) (collect_none seat signature s e.emptied))
        (λ w. confirm_if_complete-done s z room e.holds e.emptied)

    -- and one heard before it
    early-done : (seat : ℕ) (value signature : List ℕ) → s.unit.own.submitted ≡ false → seat < s.unit.n → length value ≡ value_length → Attested checks W seat value signature
        → Done s (confirm_if_complete (keep_if_first seat value signature s))
    unfolding keep_if_first
    early-done seat value signature unsaid inside sized g =
        cond_elim (λ x. Done s (confirm_if_complete x)) (has seat s.unit.kept) s (keep seat value signature s)
        (λ h. confirm_if_complete-done s z room e.holds e.emptied)
        (λ h. then_done s (keep seat value signature s) (keep-leads checks W seat value signature s z room inside sized g) room (keep-held seat value signature s e.holds) (keep_none seat value signature s unsaid))

    hear_submit-done : (seat : ℕ) (value signature : List ℕ) → seat < s.unit.n → length value ≡ value_length → Attested checks W seat value signature → Done s (confirm_if_complete (hear_submit seat value signature s))
    unfolding hear_submit
    hear_submit-done seat value signature inside sized g =
        cond_elim (λ x. Done s (confirm_if_complete x)) s.unit.own.submitted (collect_if_wanted seat value signature s) (keep_if_first seat value signature s)
        (λ q. wanted-done seat value signature q inside g) (λ q. early-done seat value signature q inside sized g)

    pub stepped-done : (m : Message) → Brings s.unit m → Done s (stepped m s)
    unfolding stepped certificate_in
    stepped-done (Submit ρ seat value signature) w = hear_submit-done seat value signature w.0 w.1 w.2
    stepped-done (Notice ρ seat value) w =
        let a = hear-leads checks W value s w z in
        let b = reply-leads checks W (hear value s) a.sound in
        let t = reply (hear value s) in
        let c = leads_trans checks W 0 0 s (hear value s) t a b in
        record {
          leads = leads_trans checks W 0 1 s t t c (leads-refl checks W t c.sound 1);
          settled = settled-stays s.unit t.unit c.grows (stays_trans s.unit (hear value s).unit t.unit (hear-stays value s) (reply-stays (hear value s))) (reply-owes (hear value s)) e.complete e.holds e.emptied;
        }
    stepped-done (Full ρ sender value entries) w =
        let c = certificate_in (Full ρ sender value entries) in
        let a = hearing_leads c s z room (certifies_of checks W s.unit.n value entries w) in
        record { leads = a; settled = settled-stays s.unit (hear_certificate c s).unit a.grows (hearing_stays c s) (hearing_owes c s) e.complete e.holds e.emptied }
    stepped-done (Evidence ρ form entries) w = record { leads = leads-refl checks W s z 1; settled = e }
    stepped-done Garbled w = record { leads = leads-refl checks W s z 1; settled = e }

    -- a NOTICE taken is heard, and a FULL taken is held or compared
    pub notice-heard : (ρ seat : ℕ) (value : List ℕ) → length value ≡ value_length → Heard value (stepped (Notice ρ seat value) s).unit
    unfolding stepped
    notice-heard ρ seat value sized =
        (reply-leads checks W (hear value s) (hear-leads checks W value s sized z).sound).grows.heard value (hear-heard checks W value s)

    pub full-held : (ρ sender : ℕ) (value : List ℕ) (es : List Entry) → Entries checks W s.unit.n value es → Held value (certificate_of value es).seats (stepped (Full ρ sender value es) s).unit
    unfolding stepped certificate_in certificate_of
    full-held ρ sender value es w = hearing_held (certificate_of value es) s z room (certifies_of checks W s.unit.n value es w)
