-- SUBMITs kept before the own submit (document 02, item 1): what a call does to what is kept, and what is kept along a list. A flood of
-- early SUBMITs writes each seat's kept slots once; what is kept was delivered, and nothing is kept after the own submit.
-- Assumes nothing.
use Rattle.std.specs.Prelude.{◌≡◌, Bool, cond, not, ◌&&◌, ◌⊎◌, ◌≢◌, ℕ, zero, suc, ◌≤◌, ◌<◌}
use Rattle.std.proofs.Math.Path.{refl, sym, ap, subst}
use Rattle.std.proofs.Common.{ap₂, ◌∙◌, ⊎_elim, arith, ne_eqb}
use Rattle.std.proofs.Math.Bool.{true, false, and-false}
use mathlib.Core.List.{List, [], ◌∷◌, Memᴰ}
use Rattle.std.proofs.Math.Logic.{inl, inr}
use Rattle.std.proofs.Math.Decide.{ℕ_discrete}
use Rattle.std.proofs.Math.ListN.{length}
use Rattle.quorum.specs.Quorum.{k, bit, In, has, size, with}
use Rattle.quorum.specs.QuorumLaws.{bit-empty, bit_with_same, bit_with_other, has_true, has_false, size-empty}
use Rattle.refusal.specs.Refusal.{first_of, unrefused}
use Rattle.protocol.specs.Layout.{value_length, signature_length, store_length, kept_bank, kept_value_bank, slot_length}
use Rattle.protocol.specs.LayoutLaws.{kept_bank_lem, kept-value_bank}
use Rattle.protocol.specs.Message.{Message, Submit, Notice, Full, Evidence, Garbled, Signed, read, signed, seats_of, round_of}
use Rattle.protocol.specs.Certificate.{kept_value, kept_signature}
use Rattle.protocol.specs.Record.{fresh, impossible}
use Rattle.protocol.specs.RecordLaws.{possible}
use Rattle.protocol.specs.Refusals.{Checks, step_conditions}
use Rattle.protocol.specs.Step.{State, keep, keep_if_first, other_heard, owes_full, send_full, reply, is_complete, confirm, hear_own, confirm_if_complete, submitted, stepped}
use Rattle.protocol.specs.Calls.{Result, result_by, start}
use Rattle.protocol.specs.declared.Record.{Record}
use Rattle.round.specs.Round.{Setting, IsHonest, Call, BySubmit, ByStep, ByThinEntry, Boat, Called, IsStep, Each, EachSigned, Relation, outcome, result_of, list_from, list_of, Delivered}
use Rattle.reading.specs.ListsLaws.{cond_elim, each_nil, each_cons}
use Rattle.reading.specs.Reading.{Sized}
use Rattle.reading.specs.ReadingLaws.{read-sized}
use Rattle.reading.specs.Messages.{refusal_of, came_to}
use Rattle.reading.specs.MessagesLaws.{outcome_is, step_is, unrefused-result}
use Rattle.claims.specs.Sound.{Any}
use Rattle.claims.specs.SlotsLaws.{kept_value-fill_kept, kept_signature-fill_kept, slot-fill_kept-other}
use Rattle.claims.specs.KeptPartLaws.{Aside, Emptied, kept-value-beside, kept-signature-beside, submitted-emptied, stepped-early, late_aside, notice-aside, full-aside, aside-refl}
use Rattle.claims.specs.Parts.{k_pos, in_below}
use Rattle.claims.specs.UnrefusedLaws.{Taken}
use Rattle.claims.specs.NotRefused.{SubmitFit, StepFit, submit-fit, step-fit}
use Rattle.claims.specs.Journey.{At, any-worthy}
use Rattle.claims.specs.Opened.{start_of, opened-fresh, start-n, start-round}
use Rattle.claims.specs.Units.{end_of, by_unbroken, stop}

-- ---- before the own submit

-- nothing is complete, and no FULL is owed
confirm_if_complete-quiet : (s : State) → s.unit.confirmed ≡ false → size s.unit.own.collected ≢ k s.unit.n → confirm_if_complete s ≡ s
unfolding confirm_if_complete is_complete reply owes_full
confirm_if_complete-quiet s unconfirmed few =
    ap (λ (b : Bool). cond (not s.unit.confirmed && b) (hear_own (confirm s)) (reply s)) (ne_eqb (size s.unit.own.collected) (k s.unit.n) few)
    ∙ ap (λ (b : Bool). cond b (hear_own (confirm s)) (reply s)) (and-false (not s.unit.confirmed))
    ∙ ap (λ (b : Bool). cond (b && not s.unit.sent && other_heard s.unit) (send_full s) s) unconfirmed

module _ (r : Record) (right : impossible r ≡ false) (unsaid : r.own.submitted ≡ false) where
  uncollected : size r.own.collected ≢ k r.n
  uncollected e =
      let z = possible r right in
      let none = ap size (z.unsaid unsaid) ∙ size-empty in
      let some = k_pos r.n z.range.some in
      omega arith

  unconfirmed : r.confirmed ≡ false
  unconfirmed = go r.confirmed refl
    where
      go : (b : Bool) → r.confirmed ≡ b → b ≡ false
      go true e = absurd (uncollected ((possible r right).confirmed e))
      go false e = refl

keeping-quiet : (r : Record) (store : List ℕ) (seat : ℕ) (value signature : List ℕ) → impossible r ≡ false → r.own.submitted ≡ false
    → confirm_if_complete (keep_if_first seat value signature (start r store)) ≡ keep_if_first seat value signature (start r store)
unfolding keep_if_first keep
keeping-quiet r store seat value signature right unsaid =
    let s = start r store in
    cond_elim (λ (x : State). confirm_if_complete x ≡ x) (has seat r.kept) s (keep seat value signature s)
    (λ e. confirm_if_complete-quiet s (unconfirmed r right unsaid) (uncollected r right unsaid))
    (λ e. confirm_if_complete-quiet (keep seat value signature s) (unconfirmed r right unsaid) (uncollected r right unsaid))

-- a submit that isn't refused leaves no seat kept, and the kept part of the store as it was
pub submit-emptied : (checks : Checks) (keys : List ℕ) (r : Record) (store value signature out : List ℕ) → SubmitFit checks keys r store value signature out → Emptied (start r store) (submitted value signature (start r store))
submit-emptied checks keys r store value signature out fit =
    submitted-emptied value signature (start r store) (possible r fit.lent.possible).range.seated (omega (arith, fit.sized_signature)) fit.lent.store_room

-- ---- one call, with any record and store

-- of what is kept, a seat's share is the same: whether the seat is kept, its value, and its signature
pub record SameShare (r : Record) (store : List ℕ) (r' : Record) (store' : List ℕ) (seat : ℕ) : Type 0 where
  pub kept : bit seat r'.kept ≡ bit seat r.kept
  pub value : kept_value r.n store' seat ≡ kept_value r.n store seat
  pub signature : kept_signature r.n store' seat ≡ kept_signature r.n store seat

module _ (S : Setting) where
  open S use {keys, checks}

  -- the call is a submit that isn't refused
  pub record SubmitsNow (t : Called) : Type 0 where
    pub layout : List ℕ
    pub signature : List ℕ
    pub out : List ℕ
    pub carries : t.given ≡ BySubmit layout signature out
    pub unrefused : (result_of S t).refusal ≡ 0

  -- the call is a step that isn't refused, given a SUBMIT of this seat, value and signature
  pub record Hears (t : Called) (seat : ℕ) (value signature : List ℕ) : Type 0 where
    pub bytes : List ℕ
    pub out : List ℕ
    pub is_step : IsStep t.given bytes out
    pub reads : read t.unit.n bytes ≡ Submit t.unit.round seat value signature
    pub unrefused : (result_of S t).refusal ≡ 0

  -- the call keeps the SUBMIT of one more seat, and every other seat's share is the same
  pub record Keeps (t : Called) (x : Result) (seat : ℕ) : Type 0 where
    pub early : t.unit.own.submitted ≡ false
    pub new : bit seat t.unit.kept ≡ 0
    pub inside : seat < t.unit.n
    pub kept : x.unit.kept ≡ with seat t.unit.kept
    pub hears : Hears t seat (kept_value t.unit.n x.store seat) (kept_signature t.unit.n x.store seat)
    pub others : (other : ℕ) → other < t.unit.n → other ≢ seat → SameShare t.unit t.store x.unit x.store other

  -- the three things that a call can do to what is kept: nothing; empty it, in a submit; keep one more
  abbrev Does : Called → Result → Type 0
  Does t x =
      (x.unit.n ≡ t.unit.n)
      × (((seat : ℕ) → SameShare t.unit t.store x.unit x.store seat)
      ⊎ (SubmitsNow t × (x.unit.kept ≡ 0))
      ⊎ ((seat : ℕ) × Keeps t x seat))

  module _ (t : Called) where
    abbrev r : Record
    r = t.unit

    abbrev first : State
    first = start t.unit t.store

    abbrev came : State → Result
    came s = result_by 0 s t.unit t.store

    refused-does : (q : ℕ) (s : State) → Does t (result_by (suc q) s t.unit t.store)
    unfolding result_by unrefused
    refused-does q s = (refl, inl (λ seat. record { kept = refl; value = refl; signature = refl }))

    aside-does : (s : State) → Aside first s → Does t (came s)
    unfolding result_by unrefused
    aside-does s a = (
      a.n,
      inl (λ seat. record {
        kept = ap (bit seat) a.kept;
        value = kept-value-beside r.n t.store s.store a.beside seat;
        signature = kept-signature-beside r.n t.store s.store a.beside seat;
      }),
    )

    module _ (bytes out : List ℕ) (is : IsStep t.given bytes out) (passes : (result_of S t).refusal ≡ 0) (fit : StepFit checks keys t.unit t.store bytes out) where
      room : store_length r.n ≤ length t.store
      room = fit.lent.store_room

      early-does : (seat : ℕ) (value signature : List ℕ) → read r.n bytes ≡ Submit r.round seat value signature → seat < r.n → length value ≡ value_length → length signature ≡ signature_length → r.own.submitted ≡ false
          → Does t (came (keep_if_first seat value signature first))
      unfolding keep_if_first keep result_by unrefused
      early-does seat value signature reads inside v g unsaid =
          cond_elim (λ u. Does t (came u)) (has seat r.kept) first (keep seat value signature first)
          (λ e. aside-does first (aside-refl first))
          (λ e.
          let wide : length signature ≡ slot_length kept_bank = g ∙ sym kept_bank_lem.1 in
          let value-is = kept_value-fill_kept r.n seat value signature t.store inside room v wide in
          let signature_is = kept_signature-fill_kept r.n seat value signature t.store inside room v wide in
          let aside = slot-fill_kept-other r.n seat value signature t.store inside room v wide in (
            refl,
            inr (inr (
              seat,
              record {
                early = unsaid;
                new = (has_false seat r.kept).0 e;
                inside = inside;
                kept = refl;
                hears = record { bytes = bytes; out = out; is_step = is; reads = rw (value-is, signature_is) reads; unrefused = passes };
                others = λ other l d. record {
                  kept = bit_with_other other seat r.kept d;
                  value = aside kept_value_bank other kept-value_bank.0 l (λ _ q. d (sym q)) (λ q _. omega arith);
                  signature = aside kept_bank other kept_bank_lem.0 l (λ q _. omega arith) (λ _ q. d (sym q));
                };
              },
            )),
          ))

      heard-does : (m : Message) → read r.n bytes ≡ m → Taken checks r.n r.round m → Sized r.n m → Does t (came (stepped m first))
      unfolding stepped round_of seats_of
      heard-does (Submit ρ seat value signature) reads taken sized = go r.own.submitted refl
        where
          go : (b : Bool) → r.own.submitted ≡ b → Does t (came (stepped (Submit ρ seat value signature) first))
          go true said = aside-does (stepped (Submit ρ seat value signature) first) (late_aside first room ρ seat value signature said (taken.inside seat (Memᴰ.head refl)) (omega (arith, sized.1)))
          go false unsaid =
              subst (λ s. Does t (came s)) (sym (stepped-early ρ seat value signature first unsaid ∙ keeping-quiet t.unit t.store seat value signature fit.lent.possible unsaid))
              (early-does seat value signature (reads ∙ ap (λ i. Submit i seat value signature) taken.in_round) (taken.inside seat (Memᴰ.head refl)) sized.0 sized.1 unsaid)
      heard-does (Notice ρ seat value) reads taken sized = aside-does (stepped (Notice ρ seat value) first) (notice-aside first room ρ seat value)
      heard-does (Full ρ sender value es) reads taken sized = aside-does (stepped (Full ρ sender value es) first) (full-aside first room ρ sender value es sized.2)
      heard-does (Evidence ρ form ps) reads taken sized = aside-does first (aside-refl first)
      heard-does Garbled reads taken sized = aside-does first (aside-refl first)

    step-does : (bytes out : List ℕ) → IsStep t.given bytes out → (result_of S t).refusal ≡ 0 → first_of (step_conditions checks keys t.unit t.store (read r.n bytes) out) ≡ 0 → Does t (came (stepped (read r.n bytes) first))
    step-does bytes out is passes e =
        let fit = step-fit checks keys t.unit t.store bytes out e in
        heard-does bytes out is passes fit (read r.n bytes) refl fit.message (read-sized r.n bytes)

    came-does : (c : Call) → t.given ≡ c → (result_of S t).refusal ≡ 0 → refusal_of S c t.unit t.store ≡ 0 → Does t (came (came_to c t.unit t.store))
    unfolding refusal_of came_to result_by unrefused
    came-does (BySubmit layout signature out) is passes e =
        let a = submit-emptied checks keys t.unit t.store layout signature out (submit-fit checks keys t.unit t.store layout signature out e) in
        (a.n, inr (inl (record { layout = layout; signature = signature; out = out; carries = is; unrefused = passes }, a.kept)))
    came-does (ByStep bytes out) is passes e = step-does bytes out (inl is) passes e
    came-does (ByThinEntry bytes out) is passes e = step-does bytes out (inr is) passes e

    by_number : (q : ℕ) (s : State) → (q ≡ 0 → Does t (came s)) → Does t (result_by q s t.unit t.store)
    by_number zero s f = f refl
    by_number (suc q) s f = refused-does q s

    -- every call does one of the three, with any record and store
    pub call-does : Does t (result_of S t)
    unfolding result_by
    call-does =
        let is = outcome_is S t.given t.unit t.store in
        subst (Does t) (sym is)
        (by_number (refusal_of S t.given t.unit t.store) (came_to t.given t.unit t.store) (λ e. came-does t.given refl (ap (λ (x : Result). x.refusal) is ∙ e) e))

    -- a submit that isn't refused: what it was given, and what it comes to
    pub submits-fit : (s : SubmitsNow t) → SubmitFit checks keys t.unit t.store s.layout s.signature s.out
    unfolding refusal_of
    submits-fit s =
        submit-fit checks keys t.unit t.store s.layout s.signature s.out (subst (λ c. refusal_of S c t.unit t.store ≡ 0) s.carries (unrefused-result S t s.unrefused).0)

    pub submits-result : (s : SubmitsNow t) → (result_of S t).unit ≡ (submitted s.layout s.signature first).unit
    unfolding came_to
    submits-result s = (unrefused-result S t s.unrefused).1 ∙ ap (λ c. (came_to c t.unit t.store).unit) s.carries

    -- a SUBMIT heard is checked like any other
    pub hears-fit : (seat : ℕ) (value signature : List ℕ) (h : Hears t seat value signature) → StepFit checks keys t.unit t.store h.bytes h.out
    hears-fit seat value signature h =
        step-fit checks keys t.unit t.store h.bytes h.out (sym (step_is S t.given h.bytes h.out t.unit t.store h.is_step).0 ∙ (unrefused-result S t h.unrefused).0)

    -- a seat kept before a call that keeps another one
    kept-other : (seat : ℕ) → Keeps t (result_of S t) seat → (other : ℕ) → In other t.unit.kept → SameShare t.unit t.store (result_of S t).unit (result_of S t).store other
    kept-other seat k other i =
        let fit = hears-fit seat _ _ k.hears in
        let below = (possible t.unit fit.lent.possible).kept in
        k.others other (in_below t.unit.n other t.unit.kept below i) (λ e. absurd (let z = k.new in let o : bit seat t.unit.kept ≡ 1 = subst (λ x. In x t.unit.kept) e i in omega arith))

    -- ---- the claims about one call

    -- "A SUBMIT heard before the own submit is now checked, and the first good one from each seat is kept with its value", and nothing
    -- else happens: of the record only the seats kept change, of the store only the seat's two slots, and nothing is written
    pub early-alone : (seat : ℕ) (value signature : List ℕ) → Hears t seat value signature → t.unit.own.submitted ≡ false
        → result_of S t ≡ result_by 0 (keep_if_first seat value signature (start t.unit t.store)) t.unit t.store
    early-alone seat value signature h unsaid =
        let is = step_is S t.given h.bytes h.out t.unit t.store h.is_step in
        let fit = hears-fit seat value signature h in
        outcome_is S t.given t.unit t.store
        ∙ ap₂ (λ q s. result_by q s t.unit t.store) (unrefused-result S t h.unrefused).0
        (is.1 ∙ ap (λ (m : Message). stepped m first) h.reads ∙ stepped-early r.round seat value signature first unsaid ∙ keeping-quiet t.unit t.store seat value signature fit.lent.possible unsaid)

    -- and so the seat is kept
    pub early-kept : (seat : ℕ) (value signature : List ℕ) → Hears t seat value signature → t.unit.own.submitted ≡ false → In seat (result_of S t).unit.kept
    unfolding keep_if_first keep result_by unrefused
    early-kept seat value signature h unsaid =
        ap (λ (x : Result). bit seat x.unit.kept) (early-alone seat value signature h unsaid)
        ∙ cond_elim (λ (s : State). In seat s.unit.kept) (has seat r.kept) first (keep seat value signature first) (λ e. (has_true seat r.kept).0 e) (λ e. bit_with_same seat r.kept)

    -- "then the kept seats are empty"
    pub submit_empties : SubmitsNow t → (result_of S t).unit.kept ≡ 0
    submit_empties s =
        ap (λ (x : Record). x.kept) (submits-result s)
        ∙ (submit-emptied checks keys t.unit t.store s.layout s.signature s.out (submits-fit s)).kept

    -- "the first good one from each seat is kept": once a seat is kept, no call but the own submit changes its share
    pub kept-stays : (SubmitsNow t → ⊥) → (seat : ℕ) → In seat t.unit.kept → SameShare t.unit t.store (result_of S t).unit (result_of S t).store seat
    kept-stays never seat i = ⊎_elim (λ f. f seat) (λ rest. ⊎_elim (λ e. absurd (never e.0)) (λ k. kept-other k.0 k.1 seat i) rest) call-does.1

    -- such a call changes the share of one seat at most, and not if that seat is kept
    pub keeps-one : (SubmitsNow t → ⊥)
        → (seat : ℕ)
        × ((other : ℕ) → other < t.unit.n → other ≢ seat → SameShare t.unit t.store (result_of S t).unit (result_of S t).store other)
        × (In seat t.unit.kept → SameShare t.unit t.store (result_of S t).unit (result_of S t).store seat)
    keeps-one never =
        ⊎_elim (λ f. (0, (λ other l d. f other), λ i. f 0))
        (λ rest. ⊎_elim (λ e. absurd (never e.0)) (λ k. (k.0, k.1.others, λ i. kept-other k.0 k.1 k.0 i)) rest)
        call-does.1

-- ---- along a list

same_share_then : (r : Record) (store : List ℕ) (r' : Record) (store' : List ℕ) (r'' : Record) (store'' : List ℕ) (seat : ℕ) → r'.n ≡ r.n → SameShare r store r' store' seat → SameShare r' store' r'' store'' seat
    → SameShare r store r'' store'' seat
same_share_then r store r' store' r'' store'' seat e a b = record {
  kept = b.kept ∙ a.kept;
  value = subst (λ n. kept_value n store'' seat ≡ kept_value n store' seat) e b.value ∙ a.value;
  signature = subst (λ n. kept_signature n store'' seat ≡ kept_signature n store' seat) e b.signature ∙ a.signature;
}

module _ (S : Setting) where
  open S use {n, round, checks}

  -- a flood of early SUBMITs: from a record in which a seat is kept, its share is the same at every call of any list without an own
  -- submit. So a seat's two slots are written once.
  pub kept-once : (r : Record) (store : List ℕ) (cs : List Call) (seat : ℕ) → In seat r.kept → Each (λ t. SubmitsNow S t → ⊥) (list_from S r store cs)
      → Each (λ t. SameShare r store t.unit t.store seat) (list_from S r store cs)
  unfolding list_from
  kept-once r store [] seat i never = each_nil (λ t. SameShare r store t.unit t.store seat)
  kept-once r store (c ∷ cs) seat i never =
      let t : Called = record { given = c; unit = r; store = store } in
      let x = outcome S c r store in
      let a = kept-stays S t (never t (Memᴰ.head refl)) seat i in
      let rest = kept-once x.unit x.store cs seat (a.kept ∙ i) (λ y d. never y (Memᴰ.tail d)) in
      each_cons (λ y. SameShare r store y.unit y.store seat) t (list_from S x.unit x.store cs) (record { kept = refl; value = refl; signature = refl })
      (λ y d. same_share_then r store x.unit x.store y.unit y.store seat (call-does S t).0 a (rest y d))

  -- a relation that holds of what is kept at the start and of every SUBMIT heard holds of what is kept at every call
  module _ (Q : Relation) where
    abbrev pub OfKept : Record → List ℕ → Type 0
    OfKept r store = (seat : ℕ) → In seat r.kept → Q seat (kept_value r.n store seat) (kept_signature r.n store seat)

    abbrev pub OfHeard : Called → Type 0
    OfHeard t = (seat : ℕ) (value signature : List ℕ) → Hears S t seat value signature → Q seat value signature

    pub kept_next : (t : Called) → OfKept t.unit t.store → OfHeard t → OfKept (result_of S t).unit (result_of S t).store
    kept_next t of heard seat i =
        let r = t.unit in
        let x = result_of S t in
        let d = call-does S t in
        let like : SameShare r t.store x.unit x.store seat → Q seat (kept_value x.unit.n x.store seat) (kept_signature x.unit.n x.store seat) =
        λ a. rw (d.0, a.value, a.signature) (of seat (sym a.kept ∙ i)) in
        ⊎_elim (λ f. like (f seat))
        (λ rest. ⊎_elim (λ e. absurd (let z : bit seat x.unit.kept ≡ 0 = ap (bit seat) e.1 ∙ bit-empty seat in omega arith)) (λ k. go k.0 k.1 (ℕ_discrete seat k.0)) rest)
        d.1
      where
        go : (new : ℕ) → Keeps S t (result_of S t) new → Dec (seat ≡ new) → Q seat (kept_value (result_of S t).unit.n (result_of S t).store seat) (kept_signature (result_of S t).unit.n (result_of S t).store seat)
        go new k (yes e) = rw ((call-does S t).0, e) (heard new _ _ k.hears)
        go new k (no d) =
            let old : In seat t.unit.kept = sym (bit_with_other seat new t.unit.kept d) ∙ sym (ap (bit seat) k.kept) ∙ i in
            let a = kept-other S t new k seat old in
            rw ((call-does S t).0, a.value, a.signature) (of seat old)

    kept_of : (r : Record) (store : List ℕ) (cs : List Call) → OfKept r store → Each OfHeard (list_from S r store cs) → Each (λ t. OfKept t.unit t.store) (list_from S r store cs)
    unfolding list_from
    kept_of r store [] of heard = each_nil (λ t. OfKept t.unit t.store)
    kept_of r store (c ∷ cs) of heard =
        let t : Called = record { given = c; unit = r; store = store } in
        let x = outcome S c r store in
        each_cons (λ y. OfKept y.unit y.store) t (list_from S x.unit x.store cs) of
        (kept_of x.unit x.store cs (kept_next t of (heard t (Memᴰ.head refl))) (λ y d. heard y (Memᴰ.tail d)))

  -- ---- an honest unit's list

  module _ (u : Boat) (honest : IsHonest S u) where
    -- an opening keeps none
    pub start_none : (start_of S u honest).kept ≡ 0
    unfolding fresh
    start_none = ap (λ (r : Record). r.kept) (opened-fresh S u honest)

    -- a call of the list hears this SUBMIT
    abbrev pub HeardIn : Relation
    HeardIn seat value signature = (call : Called) × Memᴰ call (list_of S u) × Hears S call seat value signature

    module _ (t : Called) (d : Memᴰ t (list_of S u)) where
      abbrev at : At S Any (start_of S u honest) t (end_of S u honest)
      at = stop S u honest Any (any-worthy S (list_of S u)) t d

      pub size_is : t.unit.n ≡ n
      size_is = at.since.n ∙ start-n S u honest

      pub round_is : t.unit.round ≡ round
      round_is = at.since.round ∙ start-round S u honest

      -- what is kept at a call was heard in a call of the list
      pub kept_was_heard : (seat : ℕ) → In seat t.unit.kept → HeardIn seat (kept_value n t.store seat) (kept_signature n t.store seat)
      kept_was_heard seat i =
          subst (λ m. HeardIn seat (kept_value m t.store seat) (kept_signature m t.store seat)) size_is
          (by_unbroken S u honest (λ end left ts. Each (OfHeard HeardIn) ts → Each (λ x. OfKept HeardIn x.unit x.store) ts)
          (λ store cs. kept_of HeardIn (start_of S u honest) store cs (λ s e. absurd (omega (arith, ap (bit s) start_none, bit-empty s))))
          (λ y e s value signature h. (y, e, h)) t d seat i)

      -- "then the kept seats are empty": none is kept once the unit has submitted
      pub none_kept-once-submitted : t.unit.own.submitted ≡ true → t.unit.kept ≡ 0
      none_kept-once-submitted = at.settled.emptied

  -- at every call of an honest unit, each kept signature checks for its seat over the kept value, and is delivered for it
  pub kept_was_delivered : {I : Type 0} (boat : I → Boat) (i : I) → IsHonest S (boat i) → (t : Called) → Memᴰ t (list_of S (boat i)) → (seat : ℕ) → In seat t.unit.kept
      → (checks seat (kept_value n t.store seat) (kept_signature n t.store seat) ≡ true) × Delivered S boat seat (kept_value n t.store seat) (kept_signature n t.store seat)
  unfolding signed
  kept_was_delivered boat i honest t d seat kept =
      let h = kept_was_heard (boat i) honest t d seat kept in
      let c = h.0 in
      let heard = h.2 in
      let fit = hears-fit S c seat _ _ heard in
      let it : Signed = record { seat = seat; value = kept_value n t.store seat; signature = kept_signature n t.store seat } in (
        subst (λ m. EachSigned (λ s v g. checks s v g ≡ true) m) heard.reads fit.message.checked it (Memᴰ.head refl),
        record {
          to = i;
          bytes = heard.bytes;
          given = inl (record { call = c; in_list = h.1; out = heard.out; is_step = heard.is_step });
          stands = subst (λ m. Memᴰ it (signed m)) (sym heard.reads ∙ ap (λ m. read m heard.bytes) (size_is (boat i) honest c h.1)) (Memᴰ.head refl);
        },
      )
