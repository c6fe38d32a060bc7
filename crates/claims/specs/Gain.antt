-- What a skipper gains by kept SUBMITs (document 02, item 1): a unit that submits after it was given good SUBMITs of the same layout by
-- k − 1 or more other seats, in buffers of the stated lengths, confirms in that very call.
-- Assumes nothing.
use Rattle.std.specs.Prelude.{◌≡◌, Bool, ◌⊎◌, ℕ, ◌+◌, ◌≤◌, ◌<◌}
use Rattle.std.proofs.Math.Path.{refl, ap, subst, subst₂}
use Rattle.std.proofs.Common.{sym, ◌∙◌, true≢false, arith}
use Rattle.std.proofs.Math.Bool.{true, false}
use Rattle.std.proofs.lemmas.Bool.{false≢true}
use mathlib.Core.List.Memᴰ
use mathlib.Core.List.{List, [], ◌∷◌, ◌++◌, Memᴰ}
use Rattle.std.proofs.Math.Logic.{inl, inr, ⊎_elim}
use Rattle.std.proofs.Math.ListN.{length}
use Rattle.quorum.specs.Quorum.{k, bit, In, size}
use Rattle.quorum.specs.QuorumLaws.{bit-empty}
use Rattle.refusal.specs.Refusal.{unrefused}
use Rattle.protocol.specs.Layout.{store_length, out_length}
use Rattle.protocol.specs.Message.{Message, Submit, Notice, Full, Evidence, Garbled, read, round_of, seats_of, entry_seats, signed}
use Rattle.protocol.specs.Refusals.{is_for_step, rising}
use Rattle.protocol.specs.Certificate.{kept_value}
use Rattle.protocol.specs.Calls.{Result, result_by, start, step}
use Rattle.protocol.specs.declared.Record.{Record}
use Rattle.round.specs.Round.{Setting, IsHonest, Each, Relation, Call, BySubmit, ByStep, ByThinEntry, Boat, Called, IsStep, outcome, result_of, list_from, list_of, StandsIn, written_in, Confirms}
use Rattle.round.specs.Demand1.{is_notice, worth}
use Rattle.reading.specs.ListsLaws.{each_nil, each_one, each_cons, count_member, worth-true}
use Rattle.reading.specs.Messages.{messages}
use Rattle.reading.specs.MessagesLaws.{outcome_is, step_is}
use Rattle.claims.specs.Sound.{Any, CONFIRMED, Said, Good}
use Rattle.claims.specs.Parts.{confirmed-submitted}
use Rattle.claims.specs.Whole.{submitted-value}
use Rattle.claims.specs.UnrefusedLaws.{possible, Taken}
use Rattle.claims.specs.NotRefused.{Table, StepFit, SubmitFit, step_not_refused}
use Rattle.claims.specs.Journey.{At, any-worthy}
use Rattle.claims.specs.Opened.{start_of, opened-fit, start-seat}
use Rattle.claims.specs.Power.{WithoutCuts, list_is_unbroken}
use Rattle.claims.specs.Units.{end_of, stop, written_are}
use Rattle.claims.specs.Kept.{SubmitsNow, Hears, submits-fit, submits-result, hears-fit, early-kept, kept-stays, call-does, OfKept, kept_next, start_none, size_is, round_is}
use Rattle.claims.specs.CollectKeptLaws.{confirms_at_once}

-- ---- the notions of the claim

module _ (S : Setting) where
  open S use {n, round, checks}

  -- the call is a step given a good SUBMIT of the seat over the layout, which is of this round and whose signature checks, in buffers of
  -- the stated lengths
  pub record GivesGood (t : Called) (seat : ℕ) (layout : List ℕ) : Type 0 where
    pub bytes : List ℕ
    pub out : List ℕ
    pub signature : List ℕ
    pub is_step : IsStep t.given bytes out
    pub store_room : store_length n ≤ length t.store
    pub out_room : out_length n ≤ length out
    pub inside : seat < n
    pub reads : read n bytes ≡ Submit round seat layout signature
    pub checked : checks seat layout signature ≡ true

  -- of the seat's good SUBMITs that the calls give, the first is over the layout: one call gives it, and none before gives one over
  -- another layout
  unfoldable pub FirstIs : ℕ → List ℕ → List Called → Type 0
  FirstIs seat layout [] = ⊥
  FirstIs seat layout (t ∷ ts) = GivesGood t seat layout ⊎ (((other : List ℕ) → GivesGood t seat other → other ≡ layout) × FirstIs seat layout ts)

  -- the unit's list has a submit of the layout that isn't refused, and of a set of other seats, k − 1 or more, the first good SUBMIT
  -- given before it is over the same layout
  pub record SubmitsAfter (u : Boat) : Type 0 where
    pub before : List Called
    pub call : Called
    pub after : List Called
    pub split : list_of S u ≡ before ++ call ∷ after
    pub submits : SubmitsNow S call
    pub others : ℕ
    pub apart : bit u.seat others ≡ 0
    pub enough : k n ≤ size others + 1
    pub given : (seat : ℕ) → In seat others → FirstIs seat submits.layout before

-- ---- messages and calls

-- bytes that a step is given, and the value of a SUBMIT
abbrev bytes_of : Call → List ℕ
bytes_of (BySubmit value signature out) = []
bytes_of (ByStep bytes out) = bytes
bytes_of (ByThinEntry bytes out) = bytes

step-bytes : (c : Call) (bytes out : List ℕ) → IsStep c bytes out → bytes_of c ≡ bytes
step-bytes c bytes out (inl e) = ap bytes_of e
step-bytes c bytes out (inr e) = ap bytes_of e

abbrev value_of : Message → List ℕ
value_of (Submit ρ seat value signature) = value
value_of (Notice ρ seat value) = []
value_of (Full ρ sender value entries) = []
value_of (Evidence ρ form entries) = []
value_of Garbled = []

-- the only case of a message that is a NOTICE
notice_cases : (P : Message → Type 0) (m : Message) → is_notice m ≡ true → ((ρ seat : ℕ) (value : List ℕ) → P (Notice ρ seat value)) → P m
unfolding is_notice
notice_cases P (Submit ρ seat value signature) e f = absurd (false≢true e)
notice_cases P (Notice ρ seat value) e f = f ρ seat value
notice_cases P (Full ρ sender value es) e f = absurd (false≢true e)
notice_cases P (Evidence ρ form ps) e f = absurd (false≢true e)
notice_cases P Garbled e f = absurd (false≢true e)

module _ (S : Setting) where
  open S use {n, round, keys, checks}

  -- the first is over the layout where one is, and none is over another
  pub first_is : (seat : ℕ) (layout : List ℕ) (ts : List Called) (t : Called) → Memᴰ t ts → GivesGood S t seat layout → Each (λ x. (other : List ℕ) → GivesGood S x seat other → other ≡ layout) ts → FirstIs S seat layout ts
  unfolding FirstIs
  first_is seat layout [] t d gives one = absurd (Memᴰ.not-nil d)
  first_is seat layout (x ∷ ts) t d gives one =
      ⊎_elim (λ e. inl (subst (λ y. GivesGood S y seat layout) e gives)) (λ e. inr (one x (Memᴰ.head refl), first_is seat layout ts t e gives (λ y f. one y (Memᴰ.tail f)))) (Memᴰ.cases_cons d)

  -- a call gives one SUBMIT at most
  gives_one : (t : Called) (seat : ℕ) (a b : List ℕ) → GivesGood S t seat a → GivesGood S t seat b → a ≡ b
  gives_one t seat a b x y =
      let same_bytes : x.bytes ≡ y.bytes = sym (step-bytes t.given x.bytes x.out x.is_step) ∙ step-bytes t.given y.bytes y.out y.is_step in
      ap value_of (sym x.reads ∙ ap (read n) same_bytes ∙ y.reads)

  -- ---- calls one after another

  unfoldable Chain : Record → List ℕ → List Called → Type 0
  Chain r store [] = Unit {0}
  Chain r store (t ∷ ts) = (t.unit ≡ r) × (t.store ≡ store) × Chain (result_of S t).unit (result_of S t).store ts

  chain_of : (r : Record) (store : List ℕ) (cs : List Call) → Chain r store (list_from S r store cs)
  unfolding Chain list_from
  chain_of r store [] = tt
  chain_of r store (c ∷ cs) = (refl, refl, chain_of (outcome S c r store).unit (outcome S c r store).store cs)

  -- a fact that each call keeps
  carry : (P : Record → List ℕ → Type 0) (r : Record) (store : List ℕ) (before : List Called) (t : Called) (after : List Called) → Chain r store (before ++ t ∷ after)
      → Each (λ x. P x.unit x.store → P (result_of S x).unit (result_of S x).store) before → P r store → P t.unit t.store
  unfolding Chain
  carry P r store [] t after c keeps p = subst₂ P (sym c.0) (sym c.1) p
  carry P r store (x ∷ xs) t after c keeps p =
      carry P (result_of S x).unit (result_of S x).store xs t after c.2 (λ y d. keeps y (Memᴰ.tail d)) (keeps x (Memᴰ.head refl) (subst₂ P (sym c.0) (sym c.1) p))

  -- where a call's record is without a submission, so are those before it
  unsaid_before : (r : Record) (store : List ℕ) (before : List Called) (t : Called) (after : List Called) → Chain r store (before ++ t ∷ after)
      → Each (λ x. x.unit.own.submitted ≡ true → (result_of S x).unit.own.submitted ≡ true) before → t.unit.own.submitted ≡ false → Each (λ x. (result_of S x).unit.own.submitted ≡ false) before
  unfolding Chain
  unsaid_before r store [] t after c keeps unsaid = each_nil (λ x. (result_of S x).unit.own.submitted ≡ false)
  unsaid_before r store (x ∷ xs) t after c keeps unsaid =
      each_cons (λ y. (result_of S y).unit.own.submitted ≡ false) x xs (go (result_of S x).unit.own.submitted refl)
      (unsaid_before (result_of S x).unit (result_of S x).store xs t after c.2 (λ y d. keeps y (Memᴰ.tail d)) unsaid)
    where
      go : (b : Bool) → (result_of S x).unit.own.submitted ≡ b → b ≡ false
      go true e = absurd (true≢false (sym (carry (λ r _. r.own.submitted ≡ true) (result_of S x).unit (result_of S x).store xs t after c.2 (λ y d. keeps y (Memᴰ.tail d)) e) ∙ unsaid))
      go false e = refl

  module _ (u : Boat) (honest : IsHonest S u) where
    abbrev list : List Called
    list = list_of S u

    abbrev at : (x : Called) → Memᴰ x list → At S Any (start_of S u honest) x (end_of S u honest)
    at x d = stop S u honest Any (any-worthy S list) x d

    -- a good SUBMIT isn't refused
    gives-hears : (x : Called) → Memᴰ x list → (seat : ℕ) (layout : List ℕ) (g : GivesGood S x seat layout) → Hears S x seat layout g.signature
    unfolding is_for_step round_of seats_of entry_seats signed rising step result_by
    gives-hears x d seat layout g =
        let r = x.unit in
        let m = Submit round seat layout g.signature in
        let reads : read r.n g.bytes ≡ m = rw (size_is S u honest x d) g.reads in
        let taken : Taken checks n round m = record { in_round = refl; inside = each_one (λ s. s < n) seat g.inside; rises = refl; checked = each_one (λ s. checks s.seat s.value s.signature ≡ true) _ g.checked } in
        let fit : StepFit checks keys r x.store g.bytes g.out = record {
          lent = record {
            possible = possible checks Any r x.store (at x d).sound (at x d).settled;
            table = subst (λ i. Table i keys) (sym (size_is S u honest x d)) (opened-fit S u honest).table;
            store_room = rw (size_is S u honest x d) g.store_room;
            out_room = rw (size_is S u honest x d) g.out_room;
          };
          for_step = subst (λ (y : Message). is_for_step y ≡ true) (sym reads) refl;
          message = subst (Taken checks r.n r.round) (sym reads) (subst₂ (λ i ρ. Taken checks i ρ m) (sym (size_is S u honest x d)) (sym (round_is S u honest x d)) taken);
        } in
        let is = (step_is S x.given g.bytes g.out r x.store g.is_step).0 in
        record {
          bytes = g.bytes;
          out = g.out;
          is_step = g.is_step;
          reads = reads ∙ ap (λ ρ. Submit ρ seat layout g.signature) (sym (round_is S u honest x d));
          unrefused = ap (λ (y : Result). y.refusal) (outcome_is S x.given r x.store) ∙ is ∙ (step_not_refused checks keys r x.store g.bytes g.out).1 fit;
        }

    -- and a SUBMIT that isn't refused is good
    hears-gives : (x : Called) → Memᴰ x list → (seat : ℕ) (layout signature : List ℕ) → Hears S x seat layout signature → GivesGood S x seat layout
    unfolding seats_of signed
    hears-gives x d seat layout signature h =
        let fit = hears-fit S x seat layout signature h in
        let m = Submit x.unit.round seat layout signature in
        let taken = subst (Taken checks x.unit.n x.unit.round) h.reads fit.message in
        record {
          bytes = h.bytes;
          out = h.out;
          signature = signature;
          is_step = h.is_step;
          store_room = subst (λ i. store_length i ≤ length x.store) (size_is S u honest x d) fit.lent.store_room;
          out_room = subst (λ i. out_length i ≤ length h.out) (size_is S u honest x d) fit.lent.out_room;
          inside = subst (λ i. seat < i) (size_is S u honest x d) (taken.inside seat (Memᴰ.head refl));
          reads = ap (λ i. read i h.bytes) (sym (size_is S u honest x d)) ∙ h.reads ∙ ap (λ ρ. Submit ρ seat layout signature) (round_is S u honest x d);
          checked = taken.checked _ (Memᴰ.head refl);
        }

    -- ---- a seat's first good SUBMIT is what is kept

    -- a call in the list before the own submit
    abbrev Ready : Called → Type 0
    Ready x = Memᴰ x list × (SubmitsNow S x → ⊥) × (x.unit.own.submitted ≡ false)

    module _ (seat : ℕ) (layout : List ℕ) where
      -- what is kept of the seat, if anything, is over the layout
      abbrev Agrees : Relation
      Agrees s value signature = s ≡ seat → value ≡ layout

      abbrev KeptIt : Record → List ℕ → Type 0
      KeptIt r store = In seat r.kept × (kept_value r.n store seat ≡ layout)

      agrees_next : (x : Called) → Memᴰ x list → ((other : List ℕ) → GivesGood S x seat other → other ≡ layout) → OfKept S Agrees x.unit x.store → OfKept S Agrees (result_of S x).unit (result_of S x).store
      agrees_next x d one of =
          kept_next S Agrees x of (λ s value signature h e. one value (hears-gives x d seat value signature (subst (λ t. Hears S x t value signature) e h)))

      keeps_it : (x : Called) → (SubmitsNow S x → ⊥) → KeptIt x.unit x.store → KeptIt (result_of S x).unit (result_of S x).store
      keeps_it x never i =
          let a = kept-stays S x never seat i.0 in
          (a.kept ∙ i.0, ap (λ m. kept_value m (result_of S x).store seat) (call-does S x).0 ∙ a.value ∙ i.1)

      first_kept : (r : Record) (store : List ℕ) (before : List Called) (t : Called) (after : List Called) → Chain r store (before ++ t ∷ after) → Each Ready before
          → OfKept S Agrees r store → FirstIs S seat layout before → KeptIt t.unit t.store
      unfolding Chain FirstIs
      first_kept r store [] t after c each of first = absurd first
      first_kept r store (x ∷ xs) t after c each of first =
          let e = each x (Memᴰ.head refl) in
          let here : OfKept S Agrees x.unit x.store = subst₂ (OfKept S Agrees) (sym c.0) (sym c.1) of in
          let rest : Each Ready xs = λ y d. each y (Memᴰ.tail d) in
          ⊎_elim
          (λ gives.
          let kept = early-kept S x seat layout gives.signature (gives-hears x e.0 seat layout gives) e.2 in
          let after-it = agrees_next x e.0 (λ other g. gives_one x seat other layout g gives) here in
          carry KeptIt (result_of S x).unit (result_of S x).store xs t after c.2 (λ y d. keeps_it y (rest y d).1) (kept, after-it seat kept refl))
          (λ later. first_kept (result_of S x).unit (result_of S x).store xs t after c.2 rest (agrees_next x e.0 later.0 here) later.1)
          first

    -- ---- the call of the own submit

    module _ (h : SubmitsAfter S u) where
      open h use {before, call as t, after, split, submits as s, others, apart, enough, given}

      abbrev without_cuts : WithoutCuts S u
      without_cuts = list_is_unbroken S u honest

      chain : Chain (start_of S u honest) without_cuts.store (before ++ t ∷ after)
      chain = subst (Chain (start_of S u honest) without_cuts.store) (sym without_cuts.list ∙ split) (chain_of (start_of S u honest) without_cuts.store without_cuts.calls)

      in_list : Memᴰ t list
      in_list = subst (λ l. Memᴰ t l) (sym split) (Memᴰ.append_right before (Memᴰ.head refl))

      earlier_in_list : (x : Called) → Memᴰ x before → Memᴰ x list
      earlier_in_list x d = subst (λ l. Memᴰ x l) (sym split) (Memᴰ.append_left (t ∷ after) d)

      fit : SubmitFit checks keys t.unit t.store s.layout s.signature s.out
      fit = submits-fit S t s

      -- a submit that isn't refused sets the own value
      submits-sets : (x : Called) → Memᴰ x list → (q : SubmitsNow S x) → ((result_of S x).unit.own.submitted ≡ true) × ((result_of S x).unit.own.value ≡ q.layout)
      submits-sets x d q =
          let f = submits-fit S x q in
          let v = submitted-value checks Any q.layout q.signature (start x.unit x.store) (at x d).sound f.lent.store_room f.first f.sized_value (record { checked = f.checked; sized = f.sized_signature; worthy = tt }) in
          (ap (λ (r : Record). r.own.submitted) (submits-result S x q) ∙ v.0, ap (λ (r : Record). r.own.value) (submits-result S x q) ∙ v.1)

      earlier_unsaid : Each (λ x. (result_of S x).unit.own.submitted ≡ false) before
      earlier_unsaid =
          unsaid_before (start_of S u honest) without_cuts.store before t after chain (λ x d e. ((at x (earlier_in_list x d)).after.grows.said e).0) fit.first

      ready : Each Ready before
      ready x d =
          let m = earlier_in_list x d in
          (m, (λ q. true≢false (sym (submits-sets x m q).0 ∙ earlier_unsaid x d)), go x.unit.own.submitted refl)
        where
          go : (b : Bool) → x.unit.own.submitted ≡ b → b ≡ false
          go true e = absurd (true≢false (sym ((at x (earlier_in_list x d)).after.grows.said e).0 ∙ earlier_unsaid x d))
          go false e = refl

      kept_it : (seat : ℕ) → In seat others → KeptIt seat s.layout t.unit t.store
      kept_it seat i =
          first_kept seat s.layout (start_of S u honest) without_cuts.store before t after chain ready (λ x e. absurd (omega (arith, ap (bit x) (start_none S u honest), bit-empty x))) (given seat i)

      -- it has confirmed
      confirmed-there : (result_of S t).unit.confirmed ≡ true
      confirmed-there =
          let z = at t in_list in
          let size-t = size_is S u honest t in_list in
          ap (λ (r : Record). r.confirmed) (submits-result S t s)
          ∙ confirms_at_once checks Any s.layout s.signature (start t.unit t.store) z.sound fit.lent.store_room fit.first fit.sized_value (record { checked = fit.checked; sized = fit.sized_signature; worthy = tt })
          others (λ seat i. (kept_it seat i).0) (ap (λ seat. bit seat others) (z.since.seat ∙ start-seat S u honest) ∙ apart) (λ seat i. (kept_it seat i).1) (subst (λ m. k m ≤ size others + 1) (sym size-t) enough)

      unconfirmed : (b : Bool) → t.unit.confirmed ≡ b → b ≡ false
      unconfirmed true e = absurd (true≢false (sym (confirmed-submitted checks Any t.unit t.store (at t in_list).sound e) ∙ fit.first))
      unconfirmed false e = refl

      worth-unconfirmed : worth t.unit.confirmed ≡ 0
      unfolding worth
      worth-unconfirmed = rw (unconfirmed t.unit.confirmed refl)

      -- a NOTICE that this call writes is its own
      own-notice : (ρ seat : ℕ) (value : List ℕ) → Said (result_of S t).unit ρ seat value → Notice ρ seat value ≡ Notice round u.seat s.layout
      own-notice ρ seat value g =
          let z = at t in_list in
          let e : ρ ≡ round = g.of_round ∙ z.after.grows.round ∙ round_is S u honest t in_list in
          let f : seat ≡ u.seat = g.of_seat ∙ z.after.grows.seat ∙ z.since.seat ∙ start-seat S u honest in
          let h : value ≡ s.layout = g.of_value ∙ (submits-sets t in_list s).1 in
          rw (e, f, h)

      -- and the NOTICE of the layout stands in what this call writes
      notice-there : StandsIn n (Notice round u.seat s.layout) (written_in S t)
      unfolding is_notice
      notice-there =
          let z = at t in_list in
          let n-is = count_member is_notice (messages S t) (omega (arith, z.after.counts.marked CONFIRMED, worth-true (result_of S t).unit.confirmed confirmed-there, worth-unconfirmed)) in
          notice_cases (λ m. Memᴰ m (messages S t) → Good checks Any (result_of S t).unit m → StandsIn n (Notice round u.seat s.layout) (written_in S t)) n-is.0 n-is.2
          (λ ρ seat value d g. (messages S t, written_are S u honest Any (any-worthy S list) t in_list, subst (λ m. Memᴰ m (messages S t)) (own-notice ρ seat value g) d))
          n-is.1 (z.after.good n-is.0 n-is.1)

-- ---- the claim

-- "a unit that submits after it was given good SUBMITs of the same value by k − 1 or more other seats, in buffers of the stated lengths,
-- confirms in that very call": the result has confirmed set, and the NOTICE of the layout stands in what the call writes
pub confirms_in_that_call : (S : Setting) (u : Boat) → IsHonest S u → (h : SubmitsAfter S u)
    → ((result_of S h.call).unit.confirmed ≡ true) × StandsIn S.n (Notice S.round u.seat h.submits.layout) (written_in S h.call)
confirms_in_that_call S u honest h = (confirmed-there S u honest h, notice-there S u honest h)

-- and so it confirms the layout, in the words of `Round`
pub confirms_it : (S : Setting) (u : Boat) → IsHonest S u → (h : SubmitsAfter S u) → Confirms S u h.submits.layout
confirms_it S u honest h =
    (S.round, u.seat, record { call = h.call; in_list = in_list S u honest h; stands = notice-there S u honest h })
