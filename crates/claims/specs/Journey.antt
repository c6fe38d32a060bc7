-- A list of calls from end to end: the invariant holds before and after each; values said and heard, the certificate held and the guilty
-- seats stay; over the whole list a message is written exactly where its mark becomes set, and a call writes one pack at most.
-- Assumes nothing.
use Rattle.std.specs.Prelude.{◌≡◌, true}
use Rattle.std.proofs.Math.Path.{refl}
use Rattle.std.proofs.Common.{ap, ◌∙◌, arith}
use mathlib.Core.List.Memᴰ
use mathlib.Core.List.{List, [], ◌∷◌}
use Prim.Native.Nat.{ℕ, zero, suc, ◌≤◌}
use Rattle.refusal.specs.Refusal.{first_of, unrefused}
use Rattle.protocol.specs.Message.{Message, read}
use Rattle.protocol.specs.Refusals.{is_evidence, step_conditions}
use Rattle.protocol.specs.Step.{State, stepped}
use Rattle.protocol.specs.Calls.{Result, result_by, start}
use Rattle.protocol.specs.declared.Record.{Record}
use Rattle.round.specs.Round.{Each, Relation, EachSigned, Call, BySubmit, ByStep, ByThinEntry, Setting, Called, outcome, result_of, list_from}
use Rattle.round.specs.Demand1.{count}
use Rattle.reading.specs.Messages.{refusal_of, came_to, messages, all_messages}
use Rattle.reading.specs.MessagesLaws.{outcome_is}
use Rattle.reading.specs.ListsLaws.{count_nil, each_nil, each_cons}
use Rattle.claims.specs.Sound.{Any, Grows, Counts, Settled, Sound, Good}
use Rattle.claims.specs.PacksLaws.{counts_append, counts_none}
use Rattle.claims.specs.Parts.{grows-refl, grows_trans}
use Rattle.claims.specs.Whole.{Done, submitted-done, submitted-value, stepped-done}
use Rattle.claims.specs.NotRefused.{submit-fit, step-fit, brings}

-- ---- the end of a list

-- the record and the store at the end of a list
unfoldable pub last_of : Setting → Record → List ℕ → List Call → Record
last_of S r store [] = r
last_of S r store (c ∷ cs) = last_of S (outcome S c r store).unit (outcome S c r store).store cs

unfoldable pub left_by : Setting → Record → List ℕ → List Call → List ℕ
left_by S r store [] = store
left_by S r store (c ∷ cs) = left_by S (outcome S c r store).unit (outcome S c r store).store cs

-- ---- the invariant over one call

module _ (S : Setting) (W : Relation) where
  open S use {keys, checks}

  -- the relation holds of the signatures that a call takes
  abbrev pub WorthyGiven : Call → Record → Type 0
  WorthyGiven (BySubmit value signature out) r = W r.seat value signature
  WorthyGiven (ByStep bytes out) r = EachSigned W (read r.n bytes)
  WorthyGiven (ByThinEntry bytes out) r = EachSigned W (read r.n bytes)

  abbrev pub Worthy : Called → Type 0
  Worthy t = (result_of S t).refusal ≡ 0 → WorthyGiven t.given t.unit

  -- a step that isn't refused
  pub step-done : (bytes out : List ℕ) (r : Record) (store : List ℕ) → Sound checks W r store → Settled r → first_of (step_conditions checks keys r store (read r.n bytes) out) ≡ 0 → EachSigned W (read r.n bytes)
      → Done checks W (start r store) (stepped (read r.n bytes) (start r store))
  step-done bytes out r store z e q w =
      let t = step-fit checks keys r store bytes out q in
      stepped-done checks W (start r store) z t.lent.store_room e (read r.n bytes) (brings checks keys r store bytes out W t w)

  done : (c : Call) (r : Record) (store : List ℕ) → Sound checks W r store → Settled r → refusal_of S c r store ≡ 0 → WorthyGiven c r → Done checks W (start r store) (came_to c r store)
  unfolding refusal_of came_to
  done (BySubmit value signature out) r store z e q w =
      let t = submit-fit checks keys r store value signature out q in
      submitted-done checks W value signature (start r store) z t.lent.store_room t.first t.sized_value (record { checked = t.checked; sized = t.sized_signature; worthy = w })
  done (ByStep bytes out) r store z e q w = step-done bytes out r store z e q w
  done (ByThinEntry bytes out) r store z e q w = step-done bytes out r store z e q w

  -- the own value after a submit that isn't refused
  pub submit-value : (value signature out : List ℕ) (r : Record) (store : List ℕ) → Sound checks W r store → refusal_of S (BySubmit value signature out) r store ≡ 0 → W r.seat value signature
      → ((came_to (BySubmit value signature out) r store).unit.own.submitted ≡ true) × ((came_to (BySubmit value signature out) r store).unit.own.value ≡ value)
  unfolding refusal_of came_to
  submit-value value signature out r store z q w =
      let t = submit-fit checks keys r store value signature out q in
      submitted-value checks W value signature (start r store) z t.lent.store_room t.first t.sized_value (record { checked = t.checked; sized = t.sized_signature; worthy = w })

  -- facts about a call, from the record and store that it gets to those that it leaves
  pub record Passed (r : Record) (store : List ℕ) (r' : Record) (store' : List ℕ) (ms : List Message) : Type 0 where
    pub sound : Sound checks W r' store'
    pub settled : Settled r'
    pub grows : Grows r r'
    pub counts : Counts r ms r'
    pub packs : count is_evidence ms ≤ 1
    pub good : Each (Good checks W r') ms

  passed_by : (refusal : ℕ) (s : State) (r : Record) (store : List ℕ) → Sound checks W r store → Settled r → (refusal ≡ 0 → Done checks W (start r store) s)
      → Passed r store (result_by refusal s r store).unit (result_by refusal s r store).store (unrefused refusal s.written [])
  unfolding result_by unrefused
  passed_by zero s r store z e d =
      let f = d refl in
      record {
        sound = f.leads.sound;
        settled = f.settled;
        grows = f.leads.grows;
        counts = rw f.leads.written f.leads.counts;
        packs = rw f.leads.written f.leads.packs;
        good = rw f.leads.written f.leads.good;
      }
  passed_by (suc refusal) s r store z e d =
      record { sound = z; settled = e; grows = grows-refl r; counts = counts_none r r refl refl refl refl; packs = omega (arith, count_nil is_evidence); good = each_nil (Good checks W r) }

  pub passed : (t : Called) → Sound checks W t.unit t.store → Settled t.unit → Worthy t
      → Passed t.unit t.store (result_of S t).unit (result_of S t).store (messages S t)
  unfolding result_by
  passed t z e w =
      let is = outcome_is S t.given t.unit t.store in
      rw is
      (passed_by (refusal_of S t.given t.unit t.store) (came_to t.given t.unit t.store) t.unit t.store z e
      (λ q. done t.given t.unit t.store z e q (w (ap (λ (x : Result). x.refusal) is ∙ q))))

  -- ---- the invariant over a list

  -- facts at one call of a list
  pub record At (r : Record) (t : Called) (end : Record) : Type 0 where
    pub since : Grows r t.unit
    pub sound : Sound checks W t.unit t.store
    pub settled : Settled t.unit
    pub after : Passed t.unit t.store (result_of S t).unit (result_of S t).store (messages S t)
    pub before : Grows (result_of S t).unit end

  -- from a record, by the calls, to a record and a store
  pub record Journey (r end : Record) (left : List ℕ) (ts : List Called) : Type 0 where
    pub grows : Grows r end
    pub at : Each (λ t. At r t end) ts
    pub counts : Counts r (all_messages S ts) end
    pub sound : Sound checks W end left
    pub settled : Settled end

  pub journey : (r : Record) (store : List ℕ) (cs : List Call) → Sound checks W r store → Settled r → Each Worthy (list_from S r store cs)
      → Journey r (last_of S r store cs) (left_by S r store cs) (list_from S r store cs)
  unfolding list_from last_of left_by all_messages
  journey r store [] z e w =
      record { grows = grows-refl r; at = each_nil (λ t. At r t r); counts = counts_none r r refl refl refl refl; sound = z; settled = e }
  journey r store (c ∷ cs) z e w =
      let t : Called = record { given = c; unit = r; store = store } in
      let after = outcome S c r store in
      let end = last_of S after.unit after.store cs in
      let ts = list_from S after.unit after.store cs in
      let a = passed t z e (w t (Memᴰ.head refl)) in
      let rest = journey after.unit after.store cs a.sound a.settled (λ x d. w x (Memᴰ.tail d)) in
      record {
        grows = grows_trans r after.unit end a.grows rest.grows;
        at = each_cons (λ x. At r x end) t ts (record { since = grows-refl r; sound = z; settled = e; after = a; before = rest.grows })
            (λ x d. let y = rest.at x d in
            record { since = grows_trans r after.unit x.unit a.grows y.since; sound = y.sound; settled = y.settled; after = y.after; before = y.before });
        counts = counts_append r after.unit end (messages S t) (all_messages S ts) rest.grows.n a.counts rest.counts;
        sound = rest.sound;
        settled = rest.settled;
      }

-- ---- no condition on signatures

any-given : (S : Setting) (c : Call) (r : Record) → WorthyGiven S Any c r
any-given S (BySubmit value signature out) r = tt
any-given S (ByStep bytes out) r = λ s d. tt
any-given S (ByThinEntry bytes out) r = λ s d. tt

pub any-worthy : (S : Setting) (ts : List Called) → Each (Worthy S Any) ts
any-worthy S ts t d q = any-given S t.given t.unit
