-- Origin of the machine's state and of its messages: everything that it has was received, and everything that it sends is made of that.
-- Assumes nothing.
use Prim.Native.Nat.{ℕ, zero, suc, ◌≤◌, ◌<◌}
use Rattle.std.specs.Prelude.{◌≡◌, Bool, true, false, not, ◌&&◌, ◌≢◌, length}
use Rattle.std.proofs.Math.Path.{refl, subst}
use Rattle.std.proofs.Common.{sym, ap, ◌∙◌, true≢false, arith, leb-true}
use Rattle.std.proofs.lemmas.Bool.{false≢true, not-true}
use mathlib.Core.List.{List, [], ◌∷◌, ◌++◌, Memᴰ}
use Rattle.std.proofs.Math.Logic.{inl, inr}
use Rattle.std.proofs.Math.Option.{Option, none, some}
use Rattle.std.proofs.Math.Dec.{leb}
use Rattle.octets.specs.StringsLaws.{same_true}
use Rattle.quorum.specs.Quorum.{k}
use Rattle.refusal.specs.RefusalLaws.{both_true}
use Rattle.protocol.specs.Layout.{value_length}
use Rattle.protocol.specs.Values.{unset}
use Rattle.protocol.specs.Message.{Entry, Pair, PackForm, Signed, Full, Evidence}
use Rattle.protocol.specs.Refusals.{Checks, every, is_full, is_evidence}
use Rattle.round.specs.Round.{Each}
use Rattle.reading.specs.ListsLaws.{cond_elim, each_nil, each_one, each_append}
use Rattle.claims.specs.Parts.{k_pos}
use Rattle.paper.specs.Machine.{FullCertificate, Machine, init, Event, Submitted, SubmitDelivered, NoticeDelivered, FullDelivered, Action, BroadcastSubmit, ConfirmAndNotice, BroadcastFull, Detect, Reaction, act, set_value, set_confirmed, add_collected, add_early, is_some, is_own, own_value, is_from, first_from, distinct, conflict, newly, is_full_certificate, own_full, is_collected, collecting, keeping, upon_submit_delivered, taking_up, taking_up_below, upon_submit, upon_notice_delivered, obtain, upon_full_delivered, confirming, upon_quorum, sending, upon_notices_conflict, detecting, upon_fulls_conflict, upon_event, upon_rules, react, SaysConflict, Says}
use Rattle.paper.specs.ConflictsLaws.{some_none}
use Rattle.paper.specs.EntriesLaws.{shows-found, distinct_more, each_take, distinct-take, first_in_lem}
use Rattle.paper.specs.Received.{Collected, IsSubmitted, IsOwnFull, Obtained, Came, Received}
use Rattle.paper.specs.Spoken.{Formed, FormedAction}
use Rattle.paper.specs.Rules.{quorum_due, notices_due, fulls_elim}

own_value_lem : (v : List ℕ) (o : Option (List ℕ)) → is_own v o ≡ true → (v ≡ own_value o) × (o ≢ none)
unfolding is_own own_value
own_value_lem v none e = absurd (false≢true e)
own_value_lem v (some w) e = (same_true v w e, λ h. some_none w (some w) refl h)

module _ (checks : Checks) (n own : ℕ) (Happened : Event → Type 0) (some-seats : 1 ≤ n) (inside : own < n) where
  -- a submission with its value has happened, where there is a value
  abbrev SaidBy : Option (List ℕ) → Type 0
  SaidBy none = Unit {0}
  SaidBy (some v) = (length v ≡ value_length) × IsSubmitted own Happened v

  pub record Collection (v : List ℕ) (es : List Entry) : Type 0 where
    pub below : Each (λ (e : Entry). e.seat < n) es
    pub apart : distinct es ≡ true
    pub collected : Each (λ (e : Entry). Collected own Happened e.seat v e.signature) es

  abbrev Certified : FullCertificate → Type 0
  Certified c = Formed n c × Obtained own Happened c

  -- a SUBMIT that came before the submission
  abbrev CameEarly : Signed → Type 0
  CameEarly e = (e.seat < n) × Happened (SubmitDelivered e.seat e.value e.signature)

  -- everything that the machine has was received
  pub record Based (value : Option (List ℕ)) (confirmed : Bool) (early : List Signed) (collected : List Entry) (obtained : List FullCertificate) : Type 0 where
    pub heard : Each CameEarly early
    pub said : SaidBy value
    pub unsaid : value ≡ none → (collected ≡ []) × (confirmed ≡ false)
    pub collection : Collection (own_value value) collected
    pub certified : Each Certified obtained

  abbrev pub BasedOn : Machine → Type 0
  BasedOn m = Based m.value m.confirmed m.early m.collected m.obtained

  -- an action made of received values and signatures, which can be sent
  abbrev pub Sendable : Action → Type 0
  Sendable a = Received own Happened a × FormedAction n a

  abbrev pub Good : Reaction → Type 0
  Good x = BasedOn x.machine × Each Sendable x.actions

  empty : (v : List ℕ) → Collection v []
  unfolding distinct
  empty v = record { below = each_nil (λ (e : Entry). e.seat < n); apart = refl; collected = each_nil (λ (e : Entry). Collected own Happened e.seat v e.signature) }

  -- ---- SUBMIT: lines 16 and 19

  collects : (s : ℕ) (v g : List ℕ) (m : Machine) → s < n → Collected own Happened s v g → BasedOn m → is_collected checks n own s v g m ≡ true
      → Based m.value m.confirmed m.early (m.collected ++ record { seat = s; signature = g } ∷ []) m.obtained
  unfolding is_collected
  collects s v g m below came z h =
      let e : Entry = record { seat = s; signature = g } in
      let new = both_true (checks s v g && is_own v m.value) (not (is_from s m.collected)) h in
      let is = own_value_lem v m.value (both_true (checks s v g) (is_own v m.value) new.0).1 in
      let c = z.collection in
      record {
        heard = z.heard;
        said = z.said;
        unsaid = λ q. absurd (is.1 q);
        collection = record {
          below = each_append (λ (a : Entry). a.seat < n) m.collected (e ∷ []) c.below (each_one (λ (a : Entry). a.seat < n) e below);
          apart = distinct_more m.collected e c.apart (not-true (is_from s m.collected) new.1);
          collected = each_append (λ (a : Entry). Collected own Happened a.seat (own_value m.value) a.signature) m.collected (e ∷ []) c.collected
              (each_one (λ (a : Entry). Collected own Happened a.seat (own_value m.value) a.signature) e (subst (λ (w : List ℕ). Collected own Happened s w g) is.0 came));
        };
        certified = z.certified;
      }

  collecting-good : (s : ℕ) (v g : List ℕ) (x : Reaction) → s < n → Collected own Happened s v g → Good x → Good (collecting checks n own s v g x)
  unfolding collecting
  collecting-good s v g x below came z =
      cond_elim Good (is_collected checks n own s v g x.machine) (add_collected (record { seat = s; signature = g }) x) x
      (λ h. (collects s v g x.machine below came z.0 h, z.1)) (λ h. z)

  keeping-good : (s : ℕ) (v g : List ℕ) (x : Reaction) → s < n → Happened (SubmitDelivered s v g) → Good x → Good (keeping checks n own s v g x)
  unfolding keeping
  keeping-good s v g x below came z =
      let e : Signed = record { seat = s; value = v; signature = g } in
      let b = z.0 in
      cond_elim Good (checks s v g) (add_early e x) x
      (λ h. (
        record {
          heard = each_append CameEarly x.machine.early (e ∷ []) b.heard (each_one CameEarly e (below, came));
          said = b.said;
          unsaid = b.unsaid;
          collection = b.collection;
          certified = b.certified;
        },
        z.1,
      ))
      (λ h. z)

  submit-good : (s : ℕ) (v g : List ℕ) (x : Reaction) → s < n → Happened (SubmitDelivered s v g) → Good x → Good (upon_submit_delivered checks n own s v g x)
  unfolding upon_submit_delivered
  submit-good s v g x below came z =
      cond_elim Good (is_some x.machine.value) (collecting checks n own s v g x) (keeping checks n own s v g x) (λ h. collecting-good s v g x below (inr came) z) (λ h. keeping-good s v g x below came z)

  -- those that came before the submission
  taking_good : (early : List Signed) → Each CameEarly early → (o : Option Signed) → ((e : Signed) → o ≡ some e → Memᴰ e early) → (x : Reaction) → Good x → Good (taking_up checks n own o x)
  unfolding taking_up
  taking_good early heard none within x z = z
  taking_good early heard (some e) within x z = let came = heard e (within e refl) in collecting-good e.seat e.value e.signature x came.0 (inr came.1) z

  below-good : (early : List Signed) → Each CameEarly early → (t : ℕ) (x : Reaction) → Good x → Good (taking_up_below checks n own t early x)
  unfolding taking_up_below
  below-good early heard zero x z = z
  below-good early heard (suc t) x z =
      taking_good early heard (first_from t early) (λ e h. (first_in_lem t early e h).0) (taking_up_below checks n own t early x) (below-good early heard t x z)

  own-good : (v g : List ℕ) (x : Reaction) → x.machine.value ≡ none → length v ≡ value_length → Happened (Submitted v g) → Good x → Good (upon_submit checks n own v g x)
  unfolding upon_submit act own_value
  own-good v g x unsaid sized came z =
      let y = act (BroadcastSubmit v g) (set_value v x) in
      below-good x.machine.early z.0.heard n (collecting checks n own own v g y)
      (collecting-good own v g y inside (inl (refl, came)) (
        record {
          heard = z.0.heard;
          said = (sized, (g, came));
          unsaid = λ q. absurd (some_none v (some v) refl q);
          collection = subst (Collection v) (sym (z.0.unsaid unsaid).0) (empty v);
          certified = z.0.certified;
        },
        each_append Sendable x.actions (BroadcastSubmit v g ∷ []) z.1 (each_one Sendable (BroadcastSubmit v g) (came, tt)),
      ))

  -- ---- certificates: lines 35, 25, 33 and 39

  obtain-good : (c : FullCertificate) (x : Reaction) → Certified c → Good x → Good (obtain checks n own c x)
  unfolding obtain upon_notice_delivered
  obtain-good c x y z = (
    record {
      heard = z.0.heard;
      said = z.0.said;
      unsaid = z.0.unsaid;
      collection = z.0.collection;
      certified = each_append Certified x.machine.obtained (c ∷ []) z.0.certified (each_one Certified c y);
    },
    z.1,
  )

  full-good : (c : FullCertificate) (x : Reaction) → length c.value ≡ value_length → Each (λ (e : Entry). e.seat < n) c.entries → Happened (FullDelivered c) → Good x
      → Good (upon_full_delivered checks n own c x)
  unfolding upon_full_delivered is_full_certificate
  full-good c x sized below came z =
      let valid = every (λ (e : Entry). checks e.seat c.value e.signature) c.entries in
      let many = leb (k n) (length c.entries) in
      cond_elim Good (many && distinct c.entries && valid) (obtain checks n own c x) x
      (λ h. obtain-good c x (record { sized = sized; below = below; apart = (both_true many (distinct c.entries) (both_true (many && distinct c.entries) valid h).0).1 }, inr came) z)
      (λ h. z)

  -- the own value, once there is a submission
  own-said : (o : Option (List ℕ)) → SaidBy o → o ≢ none → (length (own_value o) ≡ value_length) × IsSubmitted own Happened (own_value o)
  unfolding own_value
  own-said none s h = absurd (h refl)
  own-said (some v) s h = (s.0, s.1)

  own-certified : (m : Machine) → BasedOn m → m.value ≢ none → Formed n (own_full checks n own m) × IsOwnFull own Happened (own_full checks n own m)
  unfolding own_full
  own-certified m z h =
      let v = own-said m.value z.said h in
      let c = z.collection in (
        record { sized = v.0; below = each_take (λ (e : Entry). e.seat < n) (k n) m.collected c.below; apart = distinct-take (k n) m.collected c.apart },
        record { submitted = v.1; collected = each_take (λ (e : Entry). Collected own Happened e.seat (own_value m.value) e.signature) (k n) m.collected c.collected },
      )

  -- where k seats are collected, there is a submission
  complete-said : (m : Machine) → BasedOn m → quorum_due n m ≡ true → m.value ≢ none
  complete-said m z h q =
      let many = leb-true (k n) (length m.collected) (both_true (not m.confirmed) (leb (k n) (length m.collected)) h).1 in
      let none_yet = ap length (z.unsaid q).0 in
      let p = k_pos n some-seats in
      omega arith

  quorum-good : (x : Reaction) → Good x → Good (upon_quorum checks n own x)
  unfolding upon_quorum confirming act
  quorum-good x z =
      let m = x.machine in
      let notice = ConfirmAndNotice (own_value m.value) in
      cond_elim Good (quorum_due n m) (confirming checks n own x) x
      (λ h.
      let said = complete-said m z.0 h in
      let c = own-certified m z.0 said in
      obtain-good (own_full checks n own m) (act notice (set_confirmed x)) (c.0, inl c.1) (
        record { heard = z.0.heard; said = z.0.said; unsaid = λ q. absurd (said q); collection = z.0.collection; certified = z.0.certified },
        each_append Sendable x.actions (notice ∷ []) z.1 (each_one Sendable notice ((own-said m.value z.0.said said).1, tt)),
      ))
      (λ h. z)

  confirmed-said : (m : Machine) → BasedOn m → notices_due m ≡ true → m.value ≢ none
  confirmed-said m z h q =
      let open-notices = is_some (conflict (λ (v : List ℕ). v) m.noticed) in
      let confirmed = (both_true m.confirmed (not m.sent) (both_true (m.confirmed && not m.sent) open-notices h).0).0 in
      true≢false (sym confirmed ∙ (z.unsaid q).1)

  notices-good : (x : Reaction) → Good x → Good (upon_notices_conflict checks n own x)
  unfolding upon_notices_conflict sending act
  notices-good x z =
      let full = own_full checks n own x.machine in
      cond_elim Good (notices_due x.machine) (sending checks n own x) x
      (λ h.
      let c = own-certified x.machine z.0 (confirmed-said x.machine z.0 h) in
      (z.0, each_append Sendable x.actions (BroadcastFull full ∷ []) z.1 (each_one Sendable (BroadcastFull full) (c.1, c.0))))
      (λ h. z)

  fulls-good : (x : Reaction) → Good x → Good (upon_fulls_conflict checks n own x)
  unfolding detecting act
  fulls-good x z =
      (fulls_elim checks n own (λ y. (y.machine.obtained ≡ x.machine.obtained) × Good y) x (refl, z)
      (λ c d y i j e p.
      let obtained : (b : FullCertificate) → Memᴰ b x.machine.obtained → Certified b = λ b m. p.1.0.certified b (subst (Memᴰ b) (sym p.0) m) in
      let seats = newly y.machine.detected c.entries d.entries in
      let first = obtained c i in
      let other = obtained d j in
      let found = shows-found y.machine.detected c d e in
      (p.0, (p.1.0, each_append Sendable y.actions (Detect c d seats ∷ []) p.1.1 (each_one Sendable (Detect c d seats) ((first.1, other.1, found.0), (first.0, other.0, found.0, found.1))))))
      ).1

  -- ---- at every event

  -- facts about the event of a call that isn't refused: a submission is the first, values have their length and seats are below n
  abbrev pub Brought : Event → Machine → Type 0
  Brought (Submitted v g) m = (m.value ≡ none) × (length v ≡ value_length)
  Brought (SubmitDelivered s v g) m = s < n
  Brought (NoticeDelivered v) m = Unit {0}
  Brought (FullDelivered c) m = (length c.value ≡ value_length) × Each (λ (e : Entry). e.seat < n) c.entries

  event_good : (e : Event) (x : Reaction) → Happened e → Brought e x.machine → Good x → Good (upon_event checks n own e x)
  unfolding upon_event upon_notice_delivered
  event_good (Submitted v g) x came b z = own-good v g x b.0 b.1 came z
  event_good (SubmitDelivered s v g) x came b z = submit-good s v g x b came z
  event_good (NoticeDelivered v) x came b z = z
  event_good (FullDelivered c) x came b z = full-good c x b.0 b.1 came z

  pub react-good : (e : Event) (m : Machine) → Happened e → Brought e m → BasedOn m → Good (react checks n own e m)
  unfolding react upon_rules
  react-good e m came b z =
      let x : Reaction = record { machine = m; actions = [] } in
      let y = upon_event checks n own e x in
      let w = upon_quorum checks n own y in
      fulls-good (upon_notices_conflict checks n own w) (notices-good w (quorum-good y (event_good e x came b (z, each_nil Sendable))))

  pub init_based : BasedOn init
  unfolding init own_value
  init_based = record { heard = each_nil CameEarly; said = tt; unsaid = λ q. (refl, refl); collection = empty unset; certified = each_nil Certified }

-- ---- signatures in the messages sent

module _ (seat round : ℕ) (Happened : Event → Type 0) where
  -- every signature of a certificate that was obtained came
  entry-came : (c : FullCertificate) → Obtained seat Happened c → (e : Entry) → Memᴰ e c.entries → Came seat Happened e.seat c.value e.signature
  entry-came c (inl o) e d = inl (o.collected e d)
  entry-came c (inr h) e d = inr (c.entries, h, d)

  pub full_from : (ρ sender : ℕ) (value : List ℕ) (es : List Entry) (a : Action) → Says round seat a (Full ρ sender value es) → Received seat Happened a
      → IsSubmitted seat Happened value × Each (λ (e : Entry). Collected seat Happened e.seat value e.signature) es
  unfolding is_full
  full_from ρ sender value es (BroadcastSubmit v g) s r = absurd (true≢false (ap is_full s))
  full_from ρ sender value es (ConfirmAndNotice v) s r = absurd (true≢false (ap is_full s))
  full_from ρ sender value es (BroadcastFull c) s r =
      let is = s.1 in
      let same-value : c.value ≡ value = cc in
      let same_entries : es ≡ s.0 = cc in (
        subst (IsSubmitted seat Happened) same-value r.submitted,
        λ e d. subst (λ (v : List ℕ). Collected seat Happened e.seat v e.signature) same-value (r.collected e ((s.2.just e).0 (subst (λ (xs : List Entry). Memᴰ e xs) same_entries d))),
      )
  full_from ρ sender value es (Detect c d seats) (inl s) r = absurd (true≢false (ap is_full s.2))
  full_from ρ sender value es (Detect c d seats) (inr s) r = absurd (true≢false (ap is_full s.2))

  abbrev pub BothCame : Pair → Type 0
  BothCame p = Came seat Happened p.seat p.lower_value p.lower × Came seat Happened p.seat p.higher_value p.higher

  conflict_from : (ρ : ℕ) (form : PackForm) (ps : List Pair) (c d : FullCertificate) (seats : List ℕ) → SaysConflict round seat c d seats (Evidence ρ form ps) → Obtained seat Happened c → Obtained seat Happened d
      → Each BothCame ps
  conflict_from ρ form ps c d seats s a b p e =
      let is = s.2 in
      let same-pairs : ps ≡ s.0 = cc in
      let of = ((s.3.just p).0 (subst (λ (xs : List Pair). Memᴰ p xs) same-pairs e)).0 in (
        subst (λ (v : List ℕ). Came seat Happened p.seat v p.lower) (sym of.2) (entry-came c a (record { seat = p.seat; signature = p.lower }) of.0),
        subst (λ (v : List ℕ). Came seat Happened p.seat v p.higher) (sym of.3) (entry-came d b (record { seat = p.seat; signature = p.higher }) of.1),
      )

  pub evidence_from_lem : (ρ : ℕ) (form : PackForm) (ps : List Pair) (a : Action) → Says round seat a (Evidence ρ form ps) → Received seat Happened a → Each BothCame ps
  unfolding is_evidence
  evidence_from_lem ρ form ps (BroadcastSubmit v g) s r = absurd (true≢false (ap is_evidence s))
  evidence_from_lem ρ form ps (ConfirmAndNotice v) s r = absurd (true≢false (ap is_evidence s))
  evidence_from_lem ρ form ps (BroadcastFull c) s r = absurd (true≢false (ap is_evidence s.1))
  evidence_from_lem ρ form ps (Detect c d seats) (inl s) r = conflict_from ρ form ps c d seats s r.0 r.1
  evidence_from_lem ρ form ps (Detect c d seats) (inr s) r = conflict_from ρ form ps d c seats s r.1 r.0
