-- A call and a list of calls beside the machine.
-- Assumes nothing.
use Prim.Native.Nat.{ℕ, zero, suc, ◌≤◌, ◌<◌}
use Rattle.std.specs.Prelude.{◌≡◌, cond, ◌||◌, ◌≢◌, ◌↔◌, take}
use Rattle.std.proofs.Math.Path.{refl, sym, ap, subst}
use Rattle.std.proofs.Common.{◌∙◌, arith}
use Rattle.std.proofs.Math.Bool.{true}
use Rattle.std.proofs.lemmas.Bool.{false≢true}
use mathlib.Core.List.Memᴰ
use mathlib.Core.List.{List, [], ◌∷◌, map, Memᴰ}
use Rattle.std.proofs.Math.Logic.{⊎_elim}
use Rattle.std.proofs.Math.Option.{Option, none, some}
use Rattle.std.proofs.Math.Dec.{eqb}
use Rattle.std.proofs.Math.ListN.{length}
use borrow.Author.Tests.{eqb-true, lt-leb}
use Rattle.quorum.specs.Quorum.{k, bit, In}
use Rattle.quorum.specs.QuorumLaws.{bit-empty, has_true, size-empty}
use Rattle.refusal.specs.Refusal.{first_of, unrefused}
use Rattle.protocol.specs.Layout.{signature_length, collected_bank, first_bank}
use Rattle.protocol.specs.Entries.{form_seats}
use Rattle.protocol.specs.Message.{Entry, Signed, Message, Submit, Notice, Full, Evidence, Garbled, full_form, read, entry_seats, seats_of}
use Rattle.protocol.specs.Certificate.{slot, set_of, signature_of}
use Rattle.protocol.specs.Record.{fresh}
use Rattle.protocol.specs.Refusals.{step_conditions}
use Rattle.protocol.specs.Step.{State, stepped}
use Rattle.protocol.specs.Calls.{Result, result_by}
use Rattle.protocol.specs.declared.Record.{Record}
use Rattle.round.specs.Round.{Setting, Each, Call, BySubmit, ByStep, ByThinEntry, Called, outcome, result_of, list_from, written_in, Are, StandsIn}
use Rattle.reading.specs.ListsLaws.{cond_elim, or_true-either, each_nil, each_append}
use Rattle.claims.specs.Sound.{Any, Attested}
use Rattle.claims.specs.Parts.{k_pos}
use Rattle.reading.specs.Reading.{Sized}
use Rattle.reading.specs.ReadingLaws.{read-sized}
use Rattle.claims.specs.UnrefusedLaws.{Taken}
use Rattle.claims.specs.NotRefused.{submit-fit, step-fit, brings}
use Rattle.reading.specs.Messages.{refusal_of, came_to, messages}
use Rattle.reading.specs.MessagesLaws.{outcome_is}
use Rattle.paper.specs.Machine.{FullCertificate, Machine, init, Event, Submitted, SubmitDelivered, NoticeDelivered, FullDelivered, Action, Reaction, is_some, own_value, first_from, distinct, conflict, upon_event, react, Says}
use Rattle.paper.specs.Memory.{seats_in, early_seats, kept_of, notices_of, held_first, record_of, first_entries, Recorded}
use Rattle.paper.specs.Events.{delivered, is_delivered, event_of, react_to, reaction, DoesAs, actions_over, TakenIn}
use Rattle.paper.specs.ConflictsLaws.{some_none}
use Rattle.paper.specs.EntriesLaws.{seats_none, from_seats, from_member, signature_is, distinct-take}
use Rattle.paper.specs.Spoken.{spoken, Formed, FormedAction, each_says, stands-sent}
use Rattle.paper.specs.Received.{Obtained}
use Rattle.paper.specs.Based.{BasedOn, Sendable, Good, react-good}
use Rattle.paper.specs.Rules.{AtRest, rules-rest}
use Rattle.paper.specs.Discards.{refused-signature, unsigned_discarded}
use Rattle.paper.specs.Mirror.{Quorum, Mirrors}
use Rattle.paper.specs.Parts.{at, Comes}
use Rattle.paper.specs.Calls.{none_is, submit_is, step_is}

abbrev nothing : List Entry
nothing = []

take_none : (i : ℕ) → take i nothing ≡ nothing
take_none zero = refl
take_none (suc i) = refl

module _ (S : Setting) (seat : ℕ) (some-seats : 1 ≤ S.n) (inside : seat < S.n) where
  open S use {n, round, keys, checks}

  -- ---- a call that isn't refused

  none_quiet : (m : Machine) → react_to checks n seat none m ≡ record { machine = m; actions = [] }
  unfolding react_to
  none_quiet m = refl

  step-comes : (bytes out : List ℕ) (m : Machine) (store : List ℕ) → Mirrors checks n store m → first_of (step_conditions checks keys (record_of n seat round m) store (read n bytes) out) ≡ 0
      → Comes n seat round checks (stepped (read n bytes) (at n seat round (record { machine = m; actions = [] }) store)) (react_to checks n seat (delivered (read n bytes)) m)
  unfolding record_of
  step-comes bytes out m store z q =
      let r = record_of n seat round m in
      let msg = read n bytes in
      let t = step-fit checks keys r store bytes out q in
      step_is n seat round checks keys m store msg some-seats t.lent.store_room z (brings checks keys r store bytes out Any t (λ s d. tt))

  comes : (c : Call) (m : Machine) (store : List ℕ) → Mirrors checks n store m → refusal_of S c (record_of n seat round m) store ≡ 0
      → Comes n seat round checks (came_to c (record_of n seat round m) store) (react_to checks n seat (event_of n 0 c) m)
  unfolding refusal_of came_to event_of is_delivered unrefused react_to react upon_event record_of
  comes (BySubmit value signature out) m store z q =
      let t = submit-fit checks keys (record_of n seat round m) store value signature out q in
      submit_is n seat round checks some-seats (record { machine = m; actions = [] }) store t.lent.store_room z value signature t.first inside t.sized_signature t.checked
  comes (ByStep bytes out) m store z q = step-comes bytes out m store z q
  comes (ByThinEntry bytes out) m store z q = step-comes bytes out m store z q

  -- ---- a call that is refused

  step-quiet : (bytes out : List ℕ) (m : Machine) (store : List ℕ) → AtRest n m → (refusal : ℕ) → refusal ≢ 0 → first_of (step_conditions checks keys (record_of n seat round m) store (read n bytes) out) ≡ refusal
      → react_to checks n seat (cond (is_delivered refusal) (delivered (read n bytes)) none) m ≡ record { machine = m; actions = [] }
  unfolding is_delivered
  step-quiet bytes out m store rest refusal d q =
      let r = record_of n seat round m in
      let msg = read n bytes in
      cond_elim (λ o. react_to checks n seat o m ≡ record { machine = m; actions = [] }) (eqb refusal 0 || eqb refusal 14) (delivered msg) none
      (λ e. ⊎_elim
      (λ f. absurd (d (eqb-true refusal 0 f)))
      (λ f. unsigned_discarded checks n seat m rest msg (refused-signature checks keys r store msg out (q ∙ eqb-true refusal 14 f)))
      (or_true-either (eqb refusal 0) (eqb refusal 14) e))
      (λ e. none_quiet m)

  quiet : (c : Call) (m : Machine) (store : List ℕ) → AtRest n m → (refusal : ℕ) → refusal ≢ 0 → refusal_of S c (record_of n seat round m) store ≡ refusal
      → react_to checks n seat (event_of n refusal c) m ≡ record { machine = m; actions = [] }
  unfolding refusal_of event_of unrefused record_of
  quiet (BySubmit value signature out) m store rest zero d q = absurd (d refl)
  quiet (BySubmit value signature out) m store rest (suc refusal) d q = none_quiet m
  quiet (ByStep bytes out) m store rest refusal d q = step-quiet bytes out m store rest refusal d q
  quiet (ByThinEntry bytes out) m store rest refusal d q = step-quiet bytes out m store rest refusal d q

  -- ---- a call

  pub record Meets (r : Record) (store : List ℕ) (ms : List Message) (x : Reaction) : Type 0 where
    pub unit : r ≡ record_of n seat round x.machine
    pub messages : ms ≡ map (spoken n round seat) x.actions
    pub mirrors : Mirrors checks n store x.machine

  meets_by : (refusal : ℕ) (s : State) (m : Machine) (store : List ℕ) (x : Reaction) → Mirrors checks n store m → (refusal ≡ 0 → Comes n seat round checks s x) → (refusal ≢ 0 → x ≡ record { machine = m; actions = [] })
      → Meets (result_by refusal s (record_of n seat round m) store).unit (result_by refusal s (record_of n seat round m) store).store (unrefused refusal s.written []) x
  unfolding result_by unrefused
  meets_by zero s m store x z came stayed =
      let a = came refl in
      record {
        unit = ap (λ (y : State). y.unit) a.is;
        messages = ap (λ (y : State). y.written) a.is;
        mirrors = subst (λ (y : State). Mirrors checks n y.store x.machine) (sym a.is) a.mirrors;
      }
  meets_by (suc refusal) s m store x z came stayed =
      subst (Meets (record_of n seat round m) store []) (sym (stayed (λ q. omega arith))) (record { unit = refl; messages = refl; mirrors = z })

  meets : (c : Call) (m : Machine) (store : List ℕ) → Mirrors checks n store m → AtRest n m
      → let t : Called = record { given = c; unit = record_of n seat round m; store = store } in
      Meets (result_of S t).unit (result_of S t).store (messages S t) (reaction S seat t m)
  unfolding reaction result_by
  meets c m store z rest =
      let r = record_of n seat round m in
      let refusal = refusal_of S c r store in
      let is = outcome_is S c r store in
      rw is
      (meets_by refusal (came_to c r store) m store (react_to checks n seat (event_of n refusal c) m) z
      (λ q. subst (λ (i : ℕ). Comes n seat round checks (came_to c r store) (react_to checks n seat (event_of n i c) m)) (sym q) (comes c m store z q))
      (λ d. quiet c m store rest refusal d refl))

  reaction-rest : (o : Option Event) (m : Machine) → AtRest n m → AtRest n (react_to checks n seat o m).machine
  unfolding react_to react
  reaction-rest none m rest = rest
  reaction-rest (some e) m rest = rules-rest checks n seat (upon_event checks n seat e (record { machine = m; actions = [] }))

  -- ---- events of the calls in a list

  module _ (all : List Called) where
    abbrev Happened : Event → Type 0
    Happened = TakenIn S all

    abbrev Has : Machine → Type 0
    Has = BasedOn checks n seat Happened some-seats inside

    abbrev Done : Reaction → Type 0
    Done = Good checks n seat Happened some-seats inside

    still-good : (m : Machine) → Has m → Done (record { machine = m; actions = [] })
    still-good m z = (z, each_nil (Sendable checks n seat Happened some-seats inside))

    step-good : (msg : Message) (m : Machine) → Taken checks n round msg → Sized n msg → ((e : Event) → delivered msg ≡ some e → Happened e) → Has m → Done (react_to checks n seat (delivered msg) m)
    unfolding delivered react_to seats_of entry_seats form_seats full_form
    step-good (Submit ρ s v g) m t l came z = react-good checks n seat Happened some-seats inside (SubmitDelivered s v g) m (came (SubmitDelivered s v g) refl) (t.inside s (Memᴰ.head refl)) z
    step-good (Notice ρ s v) m t l came z = react-good checks n seat Happened some-seats inside (NoticeDelivered v) m (came (NoticeDelivered v) refl) tt z
    step-good (Full ρ sender v es) m t l came z =
        let c : FullCertificate = record { value = v; entries = es } in
        react-good checks n seat Happened some-seats inside (FullDelivered c) m (came (FullDelivered c) refl) (l.0, λ e d. t.inside e.seat (Memᴰ.tail (Memᴰ.map (λ (x : Entry). x.seat) d))) z
    step-good (Evidence ρ form ps) m t l came z = still-good m z
    step-good Garbled m t l came z = still-good m z

    react_is : (e : Event) (m : Machine) → Done (react checks n seat e m) → Done (react_to checks n seat (some e) m)
    unfolding react_to
    react_is e m g = g

    taken-good : (c : Call) (m : Machine) (store : List ℕ) → refusal_of S c (record_of n seat round m) store ≡ 0 → ((e : Event) → event_of n 0 c ≡ some e → Happened e) → Has m
        → Done (react_to checks n seat (event_of n 0 c) m)
    unfolding refusal_of event_of is_delivered unrefused record_of
    taken-good (BySubmit value signature out) m store q came z =
        let t = submit-fit checks keys (record_of n seat round m) store value signature out q in
        react_is (Submitted value signature) m (react-good checks n seat Happened some-seats inside (Submitted value signature) m (came (Submitted value signature) refl) (none_is m.value t.first, t.sized_value) z)
    taken-good (ByStep bytes out) m store q came z = step-good (read n bytes) m (step-fit checks keys (record_of n seat round m) store bytes out q).message (read-sized n bytes) came z
    taken-good (ByThinEntry bytes out) m store q came z = step-good (read n bytes) m (step-fit checks keys (record_of n seat round m) store bytes out q).message (read-sized n bytes) came z

    call-good : (c : Call) (m : Machine) (store : List ℕ) → AtRest n m → Has m
        → let t : Called = record { given = c; unit = record_of n seat round m; store = store } in Memᴰ t all → Done (reaction S seat t m)
    unfolding reaction result_by
    call-good c m store rest z d =
        let r = record_of n seat round m in
        let is = outcome_is S c r store in
        rw is (by (refusal_of S c r store) refl)
      where
        by : (refusal : ℕ) → refusal_of S c (record_of n seat round m) store ≡ refusal → Done (react_to checks n seat (event_of n refusal c) m)
        by zero q = taken-good c m store q (λ e h. (record { given = c; unit = record_of n seat round m; store = store }, d, ap (λ (x : Result). x.refusal) (outcome_is S c (record_of n seat round m) store) ∙ q, h)) z
        by (suc refusal) q = subst Done (sym (quiet c m store rest (suc refusal) (λ e. omega arith) q)) (still-good m z)

    -- ---- record and store

    recorded : (m : Machine) (r : Record) (store : List ℕ) → r ≡ record_of n seat round m → Mirrors checks n store m → Has m → Recorded n seat round m r store
    unfolding held_first first_entries
    recorded m r store e z b = record {
      unit = e;
      collected = slots (slot n collected_bank store) (take (k n) m.collected) (distinct-take (k n) m.collected b.collection.apart) z.stored.own;
      first = firsts m.obtained b.certified z.stored.first;
      kept = z.keeping.stored;
    }
      where
        slots : (f : ℕ → List ℕ) (es : List Entry) → distinct es ≡ true → ((s : ℕ) → In s (seats_in es) → f s ≡ signature_of es s) → Each (λ (x : Entry). f x.seat ≡ x.signature) es
        slots f es apart h x d = h x.seat ((has_true x.seat (seats_in es)).0 (sym (from_seats x.seat es) ∙ from_member x es d)) ∙ signature_is es apart x d

        firsts : (cs : List FullCertificate) → Each (λ (c : FullCertificate). Formed n c × Obtained seat Happened c) cs → ((s : ℕ) → In s (held_first cs).seats → slot n first_bank store s ≡ signature_of (first_entries cs) s)
            → Each (λ (x : Entry). slot n first_bank store x.seat ≡ x.signature) (first_entries cs)
        firsts [] f h = each_nil (λ (x : Entry). slot n first_bank store x.seat ≡ x.signature)
        firsts (c ∷ cs) f h = slots (slot n first_bank store) c.entries (f c (Memᴰ.head refl)).0.apart h

    -- ---- a list of calls

    pub does_as : (r : Record) (store : List ℕ) (cs : List Call) (m : Machine) → r ≡ record_of n seat round m → Mirrors checks n store m → AtRest n m → Has m → Each (λ t. Memᴰ t all) (list_from S r store cs)
        → Each (λ t. Are n (written_in S t) (messages S t)) (list_from S r store cs)
        → DoesAs S seat m (list_from S r store cs) × Each (Sendable checks n seat Happened some-seats inside) (actions_over S seat m (list_from S r store cs))
    unfolding list_from reaction actions_over
    does_as r store [] m e z rest b in_all are = (tt, each_nil (Sendable checks n seat Happened some-seats inside))
    does_as r store (c ∷ cs) m e z rest b in_all are =
        let t : Called = record { given = c; unit = r; store = store } in
        let now = reaction S seat t m in
        let a : Meets (result_of S t).unit (result_of S t).store (messages S t) now =
        subst (λ (y : Record).
        let u : Called = record { given = c; unit = y; store = store } in
        Meets (result_of S u).unit (result_of S u).store (messages S u) (reaction S seat u m)) (sym e) (meets c m store z rest) in
        let g : Done now =
        subst (λ (y : Record).
        let u : Called = record { given = c; unit = y; store = store } in
        Memᴰ u all → Done (reaction S seat u m)) (sym e) (call-good c m store rest b) (in_all t (Memᴰ.head refl)) in
        let later = does_as (outcome S c r store).unit (outcome S c r store).store cs now.machine a.unit a.mirrors (reaction-rest (event_of n (result_of S t).refusal c) m rest) g.0 (λ u d. in_all u (Memᴰ.tail d)) (λ u d. are u (Memᴰ.tail d)) in (
          (
            record {
              gets = recorded m r store e z b;
              sends = map (spoken n round seat) now.actions;
              writes = subst (Are n (written_in S t)) a.messages (are t (Memᴰ.head refl));
              says = each_says n round seat now.actions (λ x d. (g.1 x d).1);
              leaves = recorded now.machine (result_of S t).unit (result_of S t).store a.unit a.mirrors g.0;
            },
            later.0,
          ),
          each_append (Sendable checks n seat Happened some-seats inside) now.actions (actions_over S seat now.machine (list_from S (outcome S c r store).unit (outcome S c r store).store cs)) g.1 later.1,
        )

  -- ---- the opening

  pub init-recorded : fresh n seat round ≡ record_of n seat round init
  unfolding fresh record_of init is_some own_value kept_of early_seats set_of notices_of held_first
  init-recorded = rw (take_none (k n), seats_none)

  pub init-mirrors : (store : List ℕ) → Mirrors checks n store init
  unfolding init conflict held_first first_from
  init-mirrors store = record {
    keeping = record { signed = each_nil (λ (e : Signed). (e.seat < n) × Attested checks Any e.seat e.value e.signature); stored = λ s e h. absurd (some_none e none h refl) };
    collecting = record {
      unsaid = λ e. refl;
      below = each_nil (λ (e : Entry). e.seat < n);
      sized = each_nil (λ (e : Entry). length e.signature ≡ signature_length);
      counted = rw (take_none (k n), seats_none) size-empty;
    };
    obtaining = record { quorums = each_nil (Quorum n); quiet = tt };
    stored = record {
      own = λ s i. absurd (let j : bit s 0 ≡ 1 = sym (ap (bit s) (ap seats_in (take_none (k n)) ∙ seats_none)) ∙ i in omega (arith, bit-empty s));
      first = λ s i. absurd (omega (arith, bit-empty s));
    };
    resting = record { complete = sym (lt-leb (k n) 0 (k_pos n some-seats)); heard = λ h. absurd (false≢true h) };
  }

  pub init-rest : AtRest n init
  unfolding init conflict
  init-rest = record { quorum = rw (lt-leb (k n) 0 (k_pos n some-seats)); notices = refl; fulls = tt }

module _ (S : Setting) (seat : ℕ) (m : Message) where
  open S use {n, round}

  abbrev Says-one : List Action → Type 0
  Says-one acts = (a : Action) × Memᴰ a acts × Says round seat a m

  abbrev Written : List Called → Type 0
  Written ts = (t : Called) × Memᴰ t ts × StandsIn n m (written_in S t)

  pub over-list : (x : Machine) (ts : List Called) → DoesAs S seat x ts → Each (FormedAction n) (actions_over S seat x ts) → Written ts ↔ Says-one (actions_over S seat x ts)
  unfolding actions_over
  over-list x [] h f = (λ w. absurd (Memᴰ.not-nil w.1), λ s. absurd (Memᴰ.not-nil s.1))
  over-list x (t ∷ ts) h f =
      let here = reaction S seat t x in
      let rest = actions_over S seat here.machine ts in
      let now = stands-sent n round seat (written_in S t) here.actions h.0.sends (λ a d. f a (Memᴰ.append_left rest d)) h.0.writes h.0.says m in
      let later = over-list here.machine ts h.1 (λ a d. f a (Memᴰ.append_right here.actions d)) in (
        λ w. ⊎_elim
            (λ q. let s = now.0 (subst (λ (v : Called). StandsIn n m (written_in S v)) q w.2) in (s.0, Memᴰ.append_left rest s.1, s.2))
            (λ d. let s = later.0 (w.0, d, w.2) in (s.0, Memᴰ.append_right here.actions s.1, s.2))
            (Memᴰ.cases_cons w.1),
        λ s. ⊎_elim
            (λ d. (t, Memᴰ.head refl, now.1 (s.0, d, s.2)))
            (λ d. let w = later.1 (s.0, d, s.2) in (w.0, Memᴰ.tail w.1, w.2))
            (Memᴰ.append_cases here.actions s.1),
      )
