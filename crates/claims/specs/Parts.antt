-- The parts of a submit and a step: each leaves record and store sound, keeps values said and heard, the certificate held and the guilty
-- seats, and writes a message exactly where its mark becomes set.
-- Assumes nothing.
use Rattle.std.specs.Prelude.{◌≡◌, Bool, true, cond, ◌&&◌, ◌⊎◌, ◌≢◌, ℕ, ◌+◌, ◌^◌, ◌≤◌, ◌<◌, length}
use Rattle.std.proofs.Math.Path.{refl, sym, ap, subst}
use Rattle.std.proofs.Common.{◌∙◌, arith}
use Rattle.std.proofs.Math.Bool.{false, not, true≢false}
use mathlib.Core.List.{List, [], ◌∷◌, ◌++◌, append_assoc, append-nil}
use Rattle.std.proofs.Math.Logic.{inl, inr, ⊎_elim}
use Rattle.std.proofs.Math.Decide.{ℕ_discrete, dec_lt}
use Rattle.std.specs.Int.Bits.{and_zero_l}
use Rattle.std.proofs.Math.Dec.{eqb}
use borrow.Author.Tests.{eqb-true, eqb-false, ne_eqb, not-true, not-false}
use Rattle.octets.specs.Strings.{same}
use Rattle.octets.specs.StringsLaws.{same_refl, same_true, same_false}
use Rattle.quorum.specs.Quorum.{t0, k, bit, In, has, size, union, shared, less, with, seats}
use Rattle.quorum.specs.QuorumLaws.{bit_lt_two, bit_cases, bit-empty, bit_with_other, bit_with_same, has_false, bit-union, bit-shared, bit-less, in_union, in_shared, in_less, same_seats, union_lt, shared_lt, less_lt, with_lt, size-empty, size-within, size_with_new, bit-outside, mem-seats, t0-below-third, k_of_n_share_most}
use Rattle.refusal.specs.RefusalLaws.{both_true}
use Rattle.protocol.specs.Layout.{value_length, signature_length, banks, store_length, collected_bank, first_bank, kept_bank, kept_value_bank}
use Rattle.protocol.specs.Entries.{form_seats}
use Rattle.protocol.specs.Message.{ValuesEach, Message, Submit, Notice, Full, Evidence, Garbled, evidence_form, entry_seats}
use Rattle.protocol.specs.LayoutLaws.{collected_bank_lem, first_bank_lem, kept_bank_lem, kept-value_bank}
use Rattle.protocol.specs.Certificate.{Certificate, slot, fill, fill_each, own_certificate, first_certificate, full_of}
use Rattle.protocol.specs.Record.{with_guilty, none_heard, one_heard, holds}
use Rattle.protocol.specs.Refusals.{Checks, is_full, is_evidence}
use Rattle.protocol.specs.Step.{State, write, collect, set_own_value, submit_own, is_wanted, notices_with, hear, other_heard, owes_full, send_full, reply, hold, found, blame, blames, hold_or_blame}
use Rattle.protocol.specs.declared.Own.{Own}
use Rattle.protocol.specs.declared.First.{First}
use Rattle.protocol.specs.declared.Notices.{Notices}
use Rattle.protocol.specs.declared.Record.{Record}
use Rattle.round.specs.Round.{Each, Relation}
use Rattle.round.specs.Demand1.{is_submit, is_notice, worth}
use Rattle.reading.specs.ListsLaws.{cond_elim, and_false-either, worth_le_one, each_nil, each_one, each_append, count_append, count_nil, count-one}
use Rattle.claims.specs.SlotsLaws.{fill-length, slot-fill_same, slot-fill-other, fill_each-length, slot-fill_each-other, slot-fill_each_same}
use Rattle.claims.specs.Sound.{Heard, Held, Grows, Counts, Room, Attested, Hearing, Certifies, Collection, Holding, Keeping, Sound, Said, Good, Leads}
use Rattle.claims.specs.CertificatesLaws.{entries_of_lem, evidence_elim}
use Rattle.claims.specs.PacksLaws.{counts_append, counts_none, counts-other, counts-pack}

-- ---- growth of records

pub grows-refl : (r : Record) → Grows r r
grows-refl r = record { n = refl; seat = refl; round = refl; said = λ e. (e, refl); heard = λ v h. h; first = λ h. refl; guilty = λ t i. i }

pub grows_trans : (r r' r'' : Record) → Grows r r' → Grows r' r'' → Grows r r''
grows_trans r r' r'' a b = record {
  n = b.n ∙ a.n;
  seat = b.seat ∙ a.seat;
  round = b.round ∙ a.round;
  said = λ e. let x = a.said e in let y = b.said x.0 in (y.0, y.1 ∙ x.1);
  heard = λ v h. b.heard v (a.heard v h);
  first = λ h. b.first (λ e. h (sym (ap (λ (f : First). f.seats) (a.first h)) ∙ e)) ∙ a.first h;
  guilty = λ t i. b.guilty t (a.guilty t i);
}

-- a certificate that was held or compared
pub held-grows : (value : List ℕ) (seats : ℕ) (r r' : Record) → Grows r r' → Held value seats r → Held value seats r'
held-grows value seats r r' g h =
    rw (g.first h.0) (h.0, ⊎_elim inl (λ compared. inr (λ s f i. g.guilty s (compared s f i))) h.1)

-- a fleet of one seat or more has a threshold of one or more
pub k_pos : (n : ℕ) → 1 ≤ n → 1 ≤ k n
unfolding k
k_pos n h = omega (arith, t0-below-third n h)

said-grows : (r r' : Record) (ρ seat : ℕ) (value : List ℕ) → Grows r r' → Said r ρ seat value → Said r' ρ seat value
said-grows r r' ρ seat value g s =
    let still = g.said s.submitted in
    record {
      of_round = s.of_round ∙ sym g.round;
      of_seat = s.of_seat ∙ sym g.seat;
      of_value = s.of_value ∙ sym still.1;
      submitted = still.0;
      sized = s.sized;
    }

-- a seat of a set of n seats is one of the n
pub in_below : (n s m : ℕ) → m < 2 ^ n → In s m → s < n
in_below n s m l i = go (dec_lt s n)
  where
    go : Dec (s < n) → s < n
    go (yes h) = h
    go (no h) = absurd (omega (arith, bit-outside s n m l (omega arith)))

pub shared_none : (m : ℕ) → shared 0 m ≡ 0
unfolding shared
shared_none m = and_zero_l m

-- the three cases of one more value heard: the first, another one, or nothing new
notices_elim : (P : Notices → Type 0) (value : List ℕ) (r : Record) → (r.notices.heard ≡ 0 → P (record { heard = 1; value = value }))
    → (r.notices.heard ≡ 1 → value ≢ r.notices.value → P (record { heard = 2; value = r.notices.value }))
    → (r.notices.heard ≢ 0 → (r.notices.heard ≡ 1 → value ≡ r.notices.value) → P r.notices) → P (notices_with value r)
unfolding notices_with none_heard one_heard
notices_elim P value r none other known =
    let h = r.notices.heard in
    let v = r.notices.value in
    cond_elim P (eqb h 0) (record { heard = 1; value = value }) (cond (eqb h 1 && not (same value v)) (record { heard = 2; value = v }) r.notices) (λ e. none (eqb-true h 0 e))
    (λ z. cond_elim P (eqb h 1 && not (same value v)) (record { heard = 2; value = v }) r.notices
    (λ e. let both = both_true (eqb h 1) (not (same value v)) e in
    other (eqb-true h 1 both.0) (λ q. true≢false (sym (same_refl v) ∙ subst (λ (u : List ℕ). same u v ≡ false) q (not-true (same value v) both.1))))
    (λ e. known (eqb-false h 0 z)
    (λ one. ⊎_elim (λ q. absurd (eqb-false h 1 q one)) (λ q. same_true value v (not-false (same value v) q)) (and_false-either (eqb h 1) (not (same value v)) e))))

-- another value than the own one among those heard
pub other-heard : (value : List ℕ) (r : Record) → Heard value r → value ≢ r.own.value → other_heard r ≡ true
unfolding other_heard none_heard one_heard
other-heard value r h d =
    let e = r.notices.heard in
    rw (ne_eqb e 0 h.0)
    (cond_elim (λ b. b ≡ true) (eqb e 1) (not (same r.notices.value r.own.value)) true
    (λ q. rw (same_false r.notices.value r.own.value (λ p. d (sym (h.1 (eqb-true e 1 q)) ∙ p)))) (λ q. refl))

module _ (checks : Checks) (W : Relation) where
  -- a message that the unit has written stays good as the record grows
  pub good-grows : (r r' : Record) → Grows r r' → (m : Message) → Good checks W r m → Good checks W r' m
  good-grows r r' g (Submit ρ seat value signature) h = (said-grows r r' ρ seat value g h.0, h.1)
  good-grows r r' g (Notice ρ seat value) h = said-grows r r' ρ seat value g h
  good-grows r r' g (Full ρ sender value entries) h = (said-grows r r' ρ sender value g h.0, rw g.n h.1)
  good-grows r r' g (Evidence ρ form entries) h = (h.0 ∙ sym g.round, h.1, rw g.n h.2)
  good-grows r r' g Garbled h = h

  pub leads_trans : (p q : ℕ) (s s' s'' : State) → Leads checks W p s s' → Leads checks W q s' s'' → Leads checks W (p + q) s s''
  leads_trans p q s s' s'' a b = record {
    sound = b.sound;
    stored = b.stored ∙ a.stored;
    grows = grows_trans s.unit s'.unit s''.unit a.grows b.grows;
    added = a.added ++ b.added;
    written = rw (b.written, a.written, append_assoc);
    counts = counts_append s.unit s'.unit s''.unit a.added b.added b.grows.n a.counts b.counts;
    packs = omega (arith, a.packs, b.packs, count_append is_evidence a.added b.added);
    good = each_append (Good checks W s''.unit) a.added b.added (λ m d. good-grows s'.unit s''.unit b.grows m (a.good m d)) b.good;
  }

  -- room in a later state
  pub room-leads : (p : ℕ) (s s' : State) → Leads checks W p s s' → Room s → Room s'
  room-leads p s s' a room = rw (a.stored, a.grows.n) room

  -- a part that writes nothing and sets no mark
  pub leads-quiet : (p : ℕ) (s s' : State) → Sound checks W s'.unit s'.store → length s'.store ≡ length s.store → Grows s.unit s'.unit → s'.written ≡ s.written
      → s'.unit.own.submitted ≡ s.unit.own.submitted → s'.unit.confirmed ≡ s.unit.confirmed → s'.unit.sent ≡ s.unit.sent → s'.unit.guilty ≡ s.unit.guilty → Leads checks W p s s'
  leads-quiet p s s' sound stored grows e a b c d = record {
    sound = sound;
    stored = stored;
    grows = grows;
    added = [];
    written = e ∙ sym (append-nil s.written);
    counts = counts_none s.unit s'.unit a b c d;
    packs = omega (arith, count_nil is_evidence);
    good = each_nil (Good checks W s'.unit);
  }

  -- a part that writes one message
  pub leads_writing : (p : ℕ) (s s' : State) (m : Message) → Sound checks W s'.unit s'.store → length s'.store ≡ length s.store → Grows s.unit s'.unit → s'.written ≡ s.written ++ m ∷ []
      → worth (is_evidence m) ≤ p → Good checks W s'.unit m → Counts s.unit (m ∷ []) s'.unit → Leads checks W p s s'
  leads_writing p s s' m sound stored grows e packs good counts = record {
    sound = sound;
    stored = stored;
    grows = grows;
    added = m ∷ [];
    written = e;
    counts = counts;
    packs = omega (arith, count-one is_evidence m);
    good = each_one (Good checks W s'.unit) m good;
  }

  -- ---- collect

  -- the collection with the signature of a new seat
  collection_with : (n seat : ℕ) (own : Own) (signature store : List ℕ) → seat < n → store_length n ≤ length store → bit seat own.collected ≡ 0
      → size own.collected < k n → Attested checks W seat own.value signature → Collection checks W n own store
      → Collection checks W n (record { submitted = own.submitted; value = own.value; collected = with seat own.collected }) (fill n collected_bank seat signature store)
  collection_with n seat own signature store inside room new few g z = record {
    sized = z.sized;
    below = with_lt n seat own.collected inside z.below;
    few = let more = size_with_new seat own.collected new in omega arith;
    attested = λ s i. go s i (ℕ_discrete s seat);
  }
    where
      go : (s : ℕ) → In s (with seat own.collected) → Dec (s ≡ seat) → Attested checks W s own.value (slot n collected_bank (fill n collected_bank seat signature store) s)
      go s i (yes e) = rw (e, slot-fill_same n collected_bank seat signature store collected_bank_lem.0 inside room (g.sized ∙ sym collected_bank_lem.1)) g
      go s i (no d) =
          let old : In s own.collected = sym (bit_with_other s seat own.collected d) ∙ i in
          rw (slot-fill-other n collected_bank seat signature store collected_bank_lem.0 inside room (g.sized ∙ sym collected_bank_lem.1) collected_bank s collected_bank_lem.0 (in_below n s own.collected z.below old) (λ _ q. d (sym q)))
          (z.attested s old)

  -- signatures in slots that are as they were
  pub collection_like : (n : ℕ) (own : Own) (store store' : List ℕ) → Collection checks W n own store → ((t : ℕ) → t < n → slot n collected_bank store' t ≡ slot n collected_bank store t)
      → Collection checks W n own store'
  collection_like n own store store' z same =
      record { sized = z.sized; below = z.below; few = z.few; attested = λ t i. rw (same t (in_below n t own.collected z.below i)) (z.attested t i) }

  pub holding_like : (n : ℕ) (first : First) (guilty : ℕ) (store store' : List ℕ) → Holding checks W n first guilty store → ((t : ℕ) → t < n → slot n first_bank store' t ≡ slot n first_bank store t)
      → Holding checks W n first guilty store'
  holding_like n first guilty store store' z same = record {
    sized = z.sized;
    below = z.below;
    enough = z.enough;
    attested = λ t i. rw (same t (in_below n t first.seats z.below i)) (z.attested t i);
    guilty_below = z.guilty_below;
    guilty_within = z.guilty_within;
    unheld = z.unheld;
  }

  keeping_like : (n kept : ℕ) (store store' : List ℕ) → Keeping checks W n kept store
      → ((bank t : ℕ) → first_bank < bank → bank < length banks → t < n → slot n bank store' t ≡ slot n bank store t) → Keeping checks W n kept store'
  keeping_like n kept store store' z same = record {
    below = z.below;
    attested = λ t i.
        let l = in_below n t kept z.below i in
        rw (same kept_value_bank t (omega arith) kept-value_bank.0 l, same kept_bank t (omega arith) kept_bank_lem.0 l) (z.attested t i);
  }

  -- the other banks are as they were
  holding-beside : (n seat guilty : ℕ) (r : Record) (signature store : List ℕ) → seat < n → store_length n ≤ length store → length signature ≡ signature_length
      → Holding checks W n r.first guilty store → Holding checks W n r.first guilty (fill n collected_bank seat signature store)
  holding-beside n seat guilty r signature store inside room sized z =
      holding_like n r.first guilty store (fill n collected_bank seat signature store) z
      (λ t l. slot-fill-other n collected_bank seat signature store collected_bank_lem.0 inside room (sized ∙ sym collected_bank_lem.1) first_bank t first_bank_lem.0 l (λ q _. omega arith))

  keeping-beside : (n seat kept : ℕ) (signature store : List ℕ) → seat < n → store_length n ≤ length store → length signature ≡ signature_length
      → Keeping checks W n kept store → Keeping checks W n kept (fill n collected_bank seat signature store)
  keeping-beside n seat kept signature store inside room sized z =
      keeping_like n kept store (fill n collected_bank seat signature store) z
      (λ bank t a b l. slot-fill-other n collected_bank seat signature store collected_bank_lem.0 inside room (sized ∙ sym collected_bank_lem.1) bank t b l (λ q _. omega arith))

  module _ (seat : ℕ) (value signature : List ℕ) (s : State) (z : Sound checks W s.unit s.store) (room : Room s) where
    -- "the value is the own one and the seat is new, its signature is collected"
    pub collect-leads : is_wanted seat value s.unit ≡ true → s.unit.own.submitted ≡ true → (size s.unit.own.collected ≡ k s.unit.n → s.unit.confirmed ≡ true)
        → seat < s.unit.n → Attested checks W seat value signature → Leads checks W 0 s (collect seat signature s)
    unfolding collect is_wanted
    collect-leads wanted submitted complete inside g =
        let r = s.unit in
        let both = both_true (not r.confirmed && same value r.own.value) (not (has seat r.own.collected)) wanted in
        let front = both_true (not r.confirmed) (same value r.own.value) both.0 in
        let unconfirmed : r.confirmed ≡ false = not-true r.confirmed front.0 in
        let own : value ≡ r.own.value = same_true value r.own.value front.1 in
        let new : bit seat r.own.collected ≡ 0 = (has_false seat r.own.collected).0 (not-true (has seat r.own.collected) both.1) in
        let few : size r.own.collected ≢ k r.n = λ e. true≢false (sym (complete e) ∙ unconfirmed) in
        let attested : Attested checks W seat r.own.value signature = subst (λ (v : List ℕ). Attested checks W seat v signature) own g in
        let at_most : size r.own.collected ≤ k r.n = z.own.collection.few in
        leads-quiet 0 s (collect seat signature s)
        (record {
          range = z.range;
          own = record {
            collection = collection_with r.n seat r.own signature s.store inside room new (omega arith) attested z.own.collection;
            unsaid = λ e. absurd (true≢false (sym submitted ∙ e));
            said = λ e. go (ℕ_discrete r.seat seat);
          };
          heard = z.heard;
          first = holding-beside r.n seat r.guilty r signature s.store inside room g.sized z.first;
          flags = record { full = λ e. absurd (true≢false (sym e ∙ unconfirmed)); confirmed = z.flags.confirmed };
          kept = keeping-beside r.n seat r.kept signature s.store inside room g.sized z.kept;
        })
        (fill-length r.n collected_bank seat signature s.store collected_bank_lem.0 inside room (g.sized ∙ sym collected_bank_lem.1))
        (record { n = refl; seat = refl; round = refl; said = λ e. (e, refl); heard = λ v h. h; first = λ h. refl; guilty = λ t i. i })
        refl refl refl refl refl
      where
        go : Dec (s.unit.seat ≡ seat) → In s.unit.seat (with seat s.unit.own.collected)
        go (yes e) = rw e (bit_with_same seat s.unit.own.collected)
        go (no d) = bit_with_other s.unit.seat seat s.unit.own.collected d ∙ z.own.said submitted

  -- ---- submit

  module _ (value signature : List ℕ) (s : State) (z : Sound checks W s.unit s.store) (room : Room s) where
    pub submit_own-leads : s.unit.own.submitted ≡ false → length value ≡ value_length → Attested checks W s.unit.seat value signature → Leads checks W 0 s (submit_own value signature s)
    unfolding submit_own write collect set_own_value is_submit is_notice is_full is_evidence worth
    submit_own-leads unsaid sized g =
        let r = s.unit in
        let empty : r.own.collected ≡ 0 = (z.own.unsaid unsaid).0 in
        let none : size r.own.collected ≡ 0 = ap size empty ∙ size-empty in
        let some : 1 ≤ k r.n = k_pos r.n z.range.some in
        let new : bit r.seat r.own.collected ≡ 0 = rw empty (bit-empty r.seat) in
        let own : Own = record { submitted = true; value = value; collected = r.own.collected } in
        let clean : Collection checks W r.n own s.store = record {
          sized = sized;
          below = z.own.collection.below;
          few = z.own.collection.few;
          attested = λ t i. absurd (let b : bit t r.own.collected ≡ 0 = rw empty (bit-empty t) in omega arith);
        } in
        leads_writing 0 s (submit_own value signature s) (Submit r.round r.seat value signature)
        (record {
          range = z.range;
          own = record {
            collection = collection_with r.n r.seat own signature s.store z.range.seated room new (omega arith) g clean;
            unsaid = λ e. absurd (true≢false e);
            said = λ e. bit_with_same r.seat r.own.collected;
          };
          heard = z.heard;
          first = holding-beside r.n r.seat r.guilty r signature s.store z.range.seated room g.sized z.first;
          flags = record { full = λ e. absurd (let f = z.flags.full e in omega arith); confirmed = z.flags.confirmed };
          kept = keeping-beside r.n r.seat r.kept signature s.store z.range.seated room g.sized z.kept;
        })
        (fill-length r.n collected_bank r.seat signature s.store collected_bank_lem.0 z.range.seated room (g.sized ∙ sym collected_bank_lem.1))
        (record { n = refl; seat = refl; round = refl; said = λ e. absurd (true≢false (sym e ∙ unsaid)); heard = λ v h. h; first = λ h. refl; guilty = λ t i. i })
        refl
        (omega arith)
        (record { of_round = refl; of_seat = refl; of_value = refl; submitted = refl; sized = sized }, g)
        (counts-other r (submit_own value signature s).unit (Submit r.round r.seat value signature) refl refl (rw unsaid) (omega arith) (omega arith))

  -- ---- hear

  module _ (value : List ℕ) (s : State) where
    pub hear-leads : length value ≡ value_length → Sound checks W s.unit s.store → Leads checks W 0 s (hear value s)
    unfolding hear
    hear-leads sized z =
        let r = s.unit in
        let hearing : Hearing (notices_with value r) =
        notices_elim Hearing value r
        (λ e. record { sized = sized; few = omega arith; unheard = λ q. absurd (omega arith) })
        (λ e d. record { sized = z.heard.sized; few = omega arith; unheard = λ q. absurd (omega arith) })
        (λ a b. z.heard) in
        leads-quiet 0 s (hear value s)
        (record {
          range = z.range;
          own = z.own;
          heard = hearing;
          first = z.first;
          flags = z.flags;
          kept = z.kept;
        })
        refl
        (record {
          n = refl;
          seat = refl;
          round = refl;
          said = λ e. (e, refl);
          heard = λ v h. notices_elim (λ x. (x.heard ≢ 0) × (x.heard ≡ 1 → x.value ≡ v)) value r (λ e. absurd (h.0 e)) (λ e d. ((λ q. omega arith), λ q. absurd (omega arith))) (λ a b. h);
          first = λ h. refl;
          guilty = λ t i. i;
        })
        refl refl refl refl refl

    pub hear-heard : Heard value (hear value s).unit
    unfolding hear
    hear-heard =
        notices_elim (λ x. (x.heard ≢ 0) × (x.heard ≡ 1 → x.value ≡ value)) value s.unit (λ e. ((λ q. omega arith), λ q. refl)) (λ e d. ((λ q. omega arith), λ q. absurd (omega arith)))
        (λ a b. (a, λ e. sym (b e)))

  -- ---- the unit's own certificate

  -- a unit that has collected a seat has submitted
  pub collected-submitted : (r : Record) (store : List ℕ) → Sound checks W r store → 1 ≤ size r.own.collected → r.own.submitted ≡ true
  collected-submitted r store z h = go r.own.submitted refl
    where
      go : (b : Bool) → r.own.submitted ≡ b → b ≡ true
      go true e = refl
      go false e = absurd (let none = ap size (z.own.unsaid e).0 ∙ size-empty in omega arith)

  pub own-certifies : (r : Record) (store : List ℕ) → Sound checks W r store → size r.own.collected ≡ k r.n → Certifies checks W r.n (own_certificate r store)
  unfolding own_certificate
  own-certifies r store z e = record { sized = z.own.collection.sized; below = z.own.collection.below; enough = e; attested = z.own.collection.attested }

  pub first_enough : (r : Record) (store : List ℕ) → Sound checks W r store → r.first.seats ≢ 0 → size r.first.seats ≡ k r.n
  first_enough r store z held = ⊎_elim (λ e. absurd (held e)) (λ e. e) z.first.enough

  -- a guilty seat stands in the first certificate
  pub guilty-held : (r : Record) (store : List ℕ) → Sound checks W r store → (seat : ℕ) → In seat r.guilty → In seat r.first.seats
  guilty-held r store z seat i = ((in_shared seat r.guilty r.first.seats).0 (rw z.first.guilty_within i)).1

  -- and so there are k at most
  pub guilty-few : (r : Record) (store : List ℕ) → Sound checks W r store → size r.guilty ≤ k r.n
  guilty-few r store z =
      let few : size r.first.seats ≤ k r.n = ⊎_elim (λ e. omega (arith, ap size e, size-empty)) (λ e. omega arith) z.first.enough in
      omega (arith, size-within r.first.seats r.guilty (guilty-held r store z))

  first_certifies : (r : Record) (store : List ℕ) → Sound checks W r store → r.first.seats ≢ 0 → Certifies checks W r.n (first_certificate r store)
  unfolding first_certificate
  first_certifies r store z held =
      record { sized = z.first.sized; below = z.first.below; enough = first_enough r store z held; attested = z.first.attested }

  -- ---- reply

  -- a unit that has confirmed has collected k seats, and so has submitted
  pub confirmed-submitted : (r : Record) (store : List ℕ) → Sound checks W r store → r.confirmed ≡ true → r.own.submitted ≡ true
  confirmed-submitted r store z e = collected-submitted r store z (let f = z.flags.full e in let p = k_pos r.n z.range.some in omega arith)

  module _ (s : State) (z : Sound checks W s.unit s.store) where
    owes-parts : owes_full s.unit ≡ true → (s.unit.confirmed ≡ true) × (s.unit.sent ≡ false)
    unfolding owes_full
    owes-parts e =
        let r = s.unit in
        let front = both_true r.confirmed (not r.sent) (both_true (r.confirmed && not r.sent) (other_heard r) e).0 in
        (front.0, not-true r.sent front.1)

    send_full-leads : owes_full s.unit ≡ true → Leads checks W 0 s (send_full s)
    unfolding send_full write full_of own_certificate is_submit is_notice is_full is_evidence worth
    send_full-leads owes =
        let r = s.unit in
        let parts = owes-parts owes in
        let own = own-certifies r s.store z (z.flags.full parts.0) in
        leads_writing 0 s (send_full s) (full_of r.n r.round r.seat (own_certificate r s.store))
        (record {
          range = z.range;
          own = z.own;
          heard = z.heard;
          first = z.first;
          flags = record { full = z.flags.full; confirmed = λ e. parts.0 };
          kept = z.kept;
        })
        refl
        (record { n = refl; seat = refl; round = refl; said = λ e. (e, refl); heard = λ v h. h; first = λ h. refl; guilty = λ t i. i })
        refl
        (omega arith)
        (record { of_round = refl; of_seat = refl; of_value = refl; submitted = confirmed-submitted r s.store z parts.0; sized = z.own.collection.sized }, entries_of_lem checks W r.n (own_certificate r s.store) own)
        (counts-other r (send_full s).unit (full_of r.n r.round r.seat (own_certificate r s.store)) refl refl (omega arith) (omega arith) (rw parts.1))

    pub leads-refl : (p : ℕ) → Leads checks W p s s
    leads-refl p = leads-quiet p s s z refl (grows-refl s.unit) refl refl refl refl refl

    pub reply-leads : Leads checks W 0 s (reply s)
    unfolding reply
    reply-leads = cond_elim (λ x. Leads checks W 0 s x) (owes_full s.unit) (send_full s) s send_full-leads (λ e. leads-refl 0)

  -- ---- hold or blame

  module _ (c : Certificate) (s : State) (z : Sound checks W s.unit s.store) (room : Room s) (y : Certifies checks W s.unit.n c) where
    certificate_some : c.seats ≢ 0
    certificate_some e = let none = ap size e ∙ size-empty in let p = k_pos s.unit.n z.range.some in let q = y.enough in omega arith

    certificate-fit : Each (λ t. (t < s.unit.n) × (length (c.signature t) ≡ signature_length)) (seats s.unit.n c.seats)
    certificate-fit t d = let m = (mem-seats s.unit.n t c.seats).0 d in (m.0, (y.attested t m.1).sized)

    hold-leads : s.unit.first.seats ≡ 0 → Leads checks W 1 s (hold c s)
    unfolding hold
    hold-leads empty =
        let r = s.unit in
        let innocent : r.guilty ≡ 0 = (z.first.unheld empty).1 in
        let store = fill_each r.n first_bank c.signature (seats r.n c.seats) s.store in
        leads-quiet 1 s (hold c s)
        (record {
          range = z.range;
          own = record {
            collection = collection_like r.n r.own s.store store z.own.collection
                (λ t l. slot-fill_each-other r.n first_bank c.signature first_bank_lem (seats r.n c.seats) s.store collected_bank t certificate-fit room collected_bank_lem.0 l (λ u d q _. omega arith));
            unsaid = z.own.unsaid;
            said = z.own.said;
          };
          heard = z.heard;
          first = record {
            sized = y.sized;
            below = y.below;
            enough = inr y.enough;
            attested = λ t i. rw (slot-fill_each_same r.n first_bank c.signature first_bank_lem (seats r.n c.seats) s.store t certificate-fit room ((mem-seats r.n t c.seats).1 (in_below r.n t c.seats y.below i, i))) (y.attested t i);
            guilty_below = z.first.guilty_below;
            guilty_within = rw innocent (shared_none c.seats);
            unheld = λ e. absurd (certificate_some e);
          };
          flags = z.flags;
          kept = keeping_like r.n r.kept s.store store z.kept
              (λ bank t a b l. slot-fill_each-other r.n first_bank c.signature first_bank_lem (seats r.n c.seats) s.store bank t certificate-fit room b l (λ u d q _. omega arith));
        })
        (fill_each-length r.n first_bank c.signature first_bank_lem (seats r.n c.seats) s.store certificate-fit room)
        (record { n = refl; seat = refl; round = refl; said = λ e. (e, refl); heard = λ v h. h; first = λ h. absurd (h empty); guilty = λ t i. i })
        refl refl refl refl refl

    -- the seats newly found stand in both certificates, and none of them is guilty
    found_in : (t : ℕ) → In t (found c s.unit) → In t s.unit.first.seats × In t c.seats × (bit t s.unit.guilty ≡ 0)
    unfolding found
    found_in t i =
        let r = s.unit in
        let new = (in_less t (shared r.first.seats c.seats) r.guilty).0 i in
        let both = (in_shared t r.first.seats c.seats).0 new.0 in
        (both.0, both.1, new.1)

    -- a seat of both is guilty, or newly found
    guilty_or_found : (t : ℕ) → In t s.unit.first.seats → In t c.seats → In t s.unit.guilty ⊎ In t (found c s.unit)
    unfolding found
    guilty_or_found t f i =
        let r = s.unit in
        ⊎_elim (λ z. inr ((in_less t (shared r.first.seats c.seats) r.guilty).1 ((in_shared t r.first.seats c.seats).1 (f, i), z))) inl (bit_cases t r.guilty)

    found_below : found c s.unit < 2 ^ s.unit.n
    unfolding found
    found_below =
        let r = s.unit in
        less_lt r.n (shared r.first.seats c.seats) r.guilty (shared_lt r.n r.first.seats c.seats z.first.below y.below) z.first.guilty_below

    -- while no seat is guilty, all that are shared are new, and these are k − t0 or more
    found-large : s.unit.first.seats ≢ 0 → s.unit.guilty ≡ 0 → k s.unit.n ≤ size (found c s.unit) + t0 s.unit.n
    unfolding found
    found-large held innocent =
        let r = s.unit in
        let both = shared r.first.seats c.seats in
        let all : less both r.guilty ≡ both = same_seats (less both r.guilty) both (λ t. omega (arith, bit-less t both r.guilty, ap (bit t) innocent, bit-empty t)) in
        rw all (k_of_n_share_most r.n r.first.seats c.seats z.range.some z.first.below y.below (first_enough r s.store z held) y.enough)

    -- "adds the seats that it shares, and EVIDENCE is written for those newly found"
    blame-leads : s.unit.first.seats ≢ 0 → s.unit.first.value ≢ c.value → found c s.unit ≢ 0 → Leads checks W 1 s (blame c s)
    unfolding blame write first_certificate entry_seats form_seats evidence_form
    blame-leads held other some =
        let r = s.unit in
        let first = first_certificate r s.store in
        let new = found c r in
        let guilty = union r.guilty new in
        evidence_elim checks W r.n first c (first_certifies r s.store z held) y
        (λ m. Leads checks W 1 s (record { unit = with_guilty r guilty; store = s.store; written = s.written ++ m ∷ [] })) r.round other new found_below some (λ t i. let h = found_in t i in (h.0, h.1))
        (λ ps p names.
        let m = Evidence r.round ValuesEach ps in
        leads_writing 1 s (record { unit = with_guilty r guilty; store = s.store; written = s.written ++ m ∷ [] }) m
        (record {
          range = z.range;
          own = z.own;
          heard = z.heard;
          first = record {
            sized = z.first.sized;
            below = z.first.below;
            enough = z.first.enough;
            attested = z.first.attested;
            guilty_below = union_lt r.n r.guilty new z.first.guilty_below found_below;
            guilty_within = same_seats (shared guilty r.first.seats) guilty within;
            unheld = λ e. absurd (held e);
          };
          flags = z.flags;
          kept = z.kept;
        })
        refl
        (record { n = refl; seat = refl; round = refl; said = λ e. (e, refl); heard = λ v h. h; first = λ h. refl; guilty = λ t i. (in_union t r.guilty new).1 (inl i) })
        refl
        (worth_le_one (is_evidence m))
        (refl, refl, p)
        (counts-pack r (with_guilty r guilty) r.round ValuesEach ps new names (λ t i. (found_in t i).2) (found-large held) refl refl refl refl))
      where
        within : (t : ℕ) → bit t (shared (union s.unit.guilty (found c s.unit)) s.unit.first.seats) ≡ bit t (union s.unit.guilty (found c s.unit))
        within t =
            let r = s.unit in
            let new = found c r in
            let of-new : bit t new ≤ bit t r.first.seats = ⊎_elim (λ e. omega arith) (λ i. let h = (found_in t i).0 in omega arith) (bit_cases t new) in
            omega (arith, bit-shared t (union r.guilty new) r.first.seats, bit-union t r.guilty new, bit-shared t r.guilty r.first.seats, ap (bit t) z.first.guilty_within, bit_lt_two t r.first.seats, bit_lt_two t new)

    pub hold_or_blame-leads : Leads checks W 1 s (hold_or_blame c s)
    unfolding hold_or_blame blames holds
    hold_or_blame-leads =
        let r = s.unit in
        let same-value = same c.value r.first.value in
        let none = eqb (found c r) 0 in
        cond_elim (λ x. Leads checks W 1 s x) (not (eqb r.first.seats 0)) (cond (not same-value && not none) (blame c s) s) (hold c s)
        (λ held. cond_elim (λ x. Leads checks W 1 s x) (not same-value && not none) (blame c s) s
        (λ e. let both = both_true (not same-value) (not none) e in
        blame-leads (eqb-false r.first.seats 0 (not-true (eqb r.first.seats 0) held)) (λ q. true≢false (sym (same_refl c.value) ∙ subst (λ (v : List ℕ). same c.value v ≡ false) q (not-true same-value both.0))) (eqb-false (found c r) 0 (not-true none both.1)))
        (λ e. leads-refl s z 1))
        (λ empty. hold-leads (eqb-true r.first.seats 0 (not-false (eqb r.first.seats 0) empty)))

    -- the certificate is held, or compared with the one held
    pub hold_or_blame-held : Held c.value c.seats (hold_or_blame c s).unit
    unfolding hold_or_blame blames holds hold blame write
    hold_or_blame-held =
        let r = s.unit in
        let P : State → Type 0 = λ x. Held c.value c.seats x.unit in
        let same-value = same c.value r.first.value in
        let none = eqb (found c r) 0 in
        cond_elim P (not (eqb r.first.seats 0)) (cond (not same-value && not none) (blame c s) s) (hold c s)
        (λ h. let held = eqb-false r.first.seats 0 (not-true (eqb r.first.seats 0) h) in
        cond_elim P (not same-value && not none) (blame c s) s
        (λ e. (held, inr (λ t f i. (in_union t r.guilty (found c r)).1 (guilty_or_found t f i))))
        (λ e. (
          held,
          ⊎_elim (λ q. inl (sym (same_true c.value r.first.value (not-false same-value q))))
              (λ q. inr (λ t f i. ⊎_elim (λ g. g) (λ new. absurd (omega (arith, ap (bit t) (eqb-true (found c r) 0 (not-false none q)), bit-empty t))) (guilty_or_found t f i))) (and_false-either (not same-value) (not none) e),
        )))
        (λ empty. (certificate_some, inl refl))
