-- Signatures collected, by the engine and by the machine: the machine has all, and the engine the first k.
-- Assumes nothing.
use Rattle.std.specs.Prelude.{ℕ, ◌≤◌, ◌<◌, ◌≡◌, Bool, true, false, cond, ◌&&◌, ◌≢◌, leb, length, take}
use Rattle.std.proofs.Math.Path.{refl, sym, ap, subst}
use Rattle.std.proofs.Common.{◌∙◌, true≢false, arith, length-append, take_all}
use Rattle.std.proofs.Math.Bool.{not, and-false}
use Rattle.std.proofs.lemmas.Bool.{false≢true}
use mathlib.Core.List.{List, [], ◌∷◌, ◌++◌, Memᴰ}
use Rattle.std.proofs.Math.Option.{Option, none, some}
use Rattle.std.proofs.Math.Decide.{ℕ_discrete}
use Rattle.std.proofs.lemmas.List.{take-append-le}
use borrow.Author.Tests.{leb-true, leb-false, le-leb}
use Rattle.octets.specs.Strings.{same}
use Rattle.quorum.specs.Quorum.{k, bit, In, has, size, with}
use Rattle.quorum.specs.QuorumLaws.{bit_with_other, has_false, size_with_new}
use Rattle.protocol.specs.Layout.{signature_length, store_length, collected_bank, first_bank}
use Rattle.protocol.specs.LayoutLaws.{collected_bank_lem, first_bank_lem}
use Rattle.protocol.specs.Entries.{Each}
use Rattle.protocol.specs.Message.{Entry}
use Rattle.protocol.specs.Certificate.{slot, fill, signature_of}
use Rattle.protocol.specs.Record.{with_own, with_kept}
use Rattle.protocol.specs.Refusals.{Checks}
use Rattle.protocol.specs.Step.{State, with_unit, collect, confirm_if_complete}
use Rattle.reading.specs.ListsLaws.{each_one, each_append}
use Rattle.claims.specs.SlotsLaws.{fill-length, slot-fill_same, slot-fill-other}
use Rattle.claims.specs.Parts.{in_below}
use Rattle.paper.specs.Machine.{Reaction, set_own, add_collected, is_some, is_own, own_value, is_from, is_collected, collecting, upon_rules}
use Rattle.paper.specs.Memory.{seats_in, kept_of, held_first, record_of}
use Rattle.paper.specs.EntriesLaws.{seats-more, seats-below, from_seats, signature-new, signature-old}
use Rattle.paper.specs.Mirror.{Collecting, Quorum, Obtaining, Stored, Keeping}
use Rattle.paper.specs.Parts.{first_below, keeping_like, at, Comes, confirm_is}

some_is : {A : Type 0} (o : Option A) → is_some o ≡ true → o ≢ none
unfolding is_some
some_is o e h = true≢false (sym e ∙ ap is_some h)

own_is : (v : List ℕ) (o : Option (List ℕ)) → is_some o ≡ true → is_own v o ≡ same v (own_value o)
unfolding is_some is_own own_value
own_is v none e = absurd (false≢true e)
own_is v (some w) e = refl

-- a state with these seats kept
abbrev pub kept_with : ℕ → State → State
kept_with kept s = with_unit s (with_kept s.unit kept)

-- the machine with these signatures collected
abbrev pub gathered : Reaction → List Entry → Reaction
gathered x es = let m = x.machine in set_own m.value m.confirmed es x

-- the engine's test: fewer than k are collected, the value is the own one and the seat is new
abbrev pub wants : ℕ → Reaction → ℕ → List ℕ → List Entry → Bool
wants n x s v es = not (leb (k n) (length es)) && same v (own_value x.machine.value) && not (has s (seats_in (take (k n) es)))

module _ (n seat round : ℕ) where
  -- ---- a signature collected

  module _ (s : ℕ) (g : List ℕ) (x : Reaction) where
    abbrev e : Entry
    e = record { seat = s; signature = g }

    abbrev before : List Entry
    before = x.machine.collected

    -- the record with other seats collected
    abbrev collecting_to : ℕ → List ℕ → State
    collecting_to mask store =
        let r = record_of n seat round x.machine in
        with_unit (at n seat round x store) (with_own r (record { submitted = r.own.submitted; value = r.own.value; collected = mask }))

    -- a signature among the first k
    module _ (few : length before < k n) where
      all_before : take (k n) before ≡ before
      all_before = take_all (k n) before (omega arith)

      all_after : take (k n) (before ++ e ∷ []) ≡ before ++ e ∷ []
      all_after = take_all (k n) (before ++ e ∷ []) (omega (arith, length-append before (e ∷ [])))

      collect_is : (store : List ℕ) → collect s g (at n seat round x store) ≡ at n seat round (add_collected e x) (fill n collected_bank s g store)
      unfolding collect record_of
      collect_is store =
          ap (λ (mask : ℕ). collecting_to mask (fill n collected_bank s g store)) (ap (λ (es : List Entry). with s (seats_in es)) all_before ∙ sym (seats-more before e) ∙ ap seats_in (sym all_after))

      collect-collecting : s < n → length g ≡ signature_length → is_from s before ≡ false → x.machine.value ≢ none → Collecting n x.machine.value before → Collecting n x.machine.value (before ++ e ∷ [])
      collect-collecting inside sized new said z =
          let unseen : bit s (seats_in before) ≡ 0 = (has_false s (seats_in before)).0 (sym (from_seats s before) ∙ new) in
          let counted : size (seats_in before) ≡ length before = subst (λ (es : List Entry). size (seats_in es) ≡ length es) all_before z.counted in
          let more : size (seats_in (before ++ e ∷ [])) ≡ length (before ++ e ∷ []) =
          ap size (seats-more before e) ∙ size_with_new s (seats_in before) unseen ∙ omega (arith, length-append before (e ∷ [])) in
          record {
            unsaid = λ h. absurd (said h);
            below = each_append (λ (a : Entry). a.seat < n) before (e ∷ []) z.below (each_one (λ (a : Entry). a.seat < n) e inside);
            sized = each_append (λ (a : Entry). length a.signature ≡ signature_length) before (e ∷ []) z.sized (each_one (λ (a : Entry). length a.signature ≡ signature_length) e sized);
            counted = subst (λ (es : List Entry). size (seats_in es) ≡ length es) (sym all_after) more;
          }

      module _ (store : List ℕ) (room : store_length n ≤ length store) (inside : s < n) (sized : length g ≡ signature_length) (new : is_from s before ≡ false)
          (below : Each (λ (a : Entry). a.seat < n) before) (quorums : Each (Quorum n) x.machine.obtained) where
        slot_after : ((t : ℕ) → In t (seats_in before) → slot n collected_bank store t ≡ signature_of before t) → (t : ℕ) → In t (with s (seats_in before)) → Dec (t ≡ s)
            → slot n collected_bank (fill n collected_bank s g store) t ≡ signature_of (before ++ e ∷ []) t
        slot_after own t i (yes q) = rw q (slot-fill_same n collected_bank s g store collected_bank_lem.0 inside room (sized ∙ sym collected_bank_lem.1) ∙ sym (signature-new s g before new))
        slot_after own t i (no d) =
            let old : In t (seats_in before) = sym (bit_with_other t s (seats_in before) d) ∙ i in
            slot-fill-other n collected_bank s g store collected_bank_lem.0 inside room (sized ∙ sym collected_bank_lem.1) collected_bank t collected_bank_lem.0 (in_below n t (seats_in before) (seats-below n before below) old) (λ _ q. d (sym q))
            ∙ own t old
            ∙ sym (signature-old t before e (λ q. d (sym q)))

        collect-stored : Stored n store before x.machine.obtained → Stored n (fill n collected_bank s g store) (before ++ e ∷ []) x.machine.obtained
        collect-stored z =
            let own : (t : ℕ) → In t (seats_in before) → slot n collected_bank store t ≡ signature_of before t =
            subst (λ (es : List Entry). (t : ℕ) → In t (seats_in es) → slot n collected_bank store t ≡ signature_of es t) all_before z.own in
            let after : (t : ℕ) → In t (seats_in (before ++ e ∷ [])) → slot n collected_bank (fill n collected_bank s g store) t ≡ signature_of (before ++ e ∷ []) t =
            λ t i. slot_after own t (subst (In t) (seats-more before e) i) (ℕ_discrete t s) in
            record {
              own = subst (λ (es : List Entry). (t : ℕ) → In t (seats_in es) → slot n collected_bank (fill n collected_bank s g store) t ≡ signature_of es t) (sym all_after) after;
              first = λ t i.
                  slot-fill-other n collected_bank s g store collected_bank_lem.0 inside room (sized ∙ sym collected_bank_lem.1) first_bank t first_bank_lem.0 (in_below n t (held_first x.machine.obtained).seats (first_below n x.machine.obtained quorums) i) (λ q _. omega arith)
                  ∙ z.first t i;
            }

    -- a signature after the first k: the machine has it, and the record is as before
    module _ (many : k n ≤ length before) where
      same_taken : take (k n) (before ++ e ∷ []) ≡ take (k n) before
      same_taken = take-append-le (k n) before (e ∷ []) many

      beyond_is : (store : List ℕ) → at n seat round x store ≡ at n seat round (add_collected e x) store
      unfolding record_of
      beyond_is store = ap (λ (mask : ℕ). collecting_to mask store) (ap seats_in (sym same_taken))

      beyond-collecting : s < n → length g ≡ signature_length → x.machine.value ≢ none → Collecting n x.machine.value before → Collecting n x.machine.value (before ++ e ∷ [])
      beyond-collecting inside sized said z = record {
        unsaid = λ h. absurd (said h);
        below = each_append (λ (a : Entry). a.seat < n) before (e ∷ []) z.below (each_one (λ (a : Entry). a.seat < n) e inside);
        sized = each_append (λ (a : Entry). length a.signature ≡ signature_length) before (e ∷ []) z.sized (each_one (λ (a : Entry). length a.signature ≡ signature_length) e sized);
        counted = subst (λ (es : List Entry). size (seats_in es) ≡ length es) (sym same_taken) z.counted;
      }

      beyond-stored : (store : List ℕ) → Stored n store before x.machine.obtained → Stored n store (before ++ e ∷ []) x.machine.obtained
      beyond-stored store z = record {
        own = subst (λ (es : List Entry). (t : ℕ) → In t (seats_in es) → slot n collected_bank store t ≡ signature_of es t) (sym same_taken) z.own;
        first = z.first;
      }

  -- ---- signatures collected one after another

  collect-kept : (kept s : ℕ) (g : List ℕ) (st : State) → collect s g (kept_with kept st) ≡ kept_with kept (collect s g st)
  unfolding collect
  collect-kept kept s g st = refl

  module _ (checks : Checks) (x : Reaction) where
    -- a state of the engine with these seats kept, beside the machine while it collects signatures
    pub record Gathers (kept : ℕ) (st : State) (y : Reaction) : Type 0 where
      pub collected : List Entry
      pub store : List ℕ
      pub machine : y ≡ gathered x collected
      pub is : st ≡ kept_with kept (at n seat round (gathered x collected) store)
      pub room : store_length n ≤ length store
      pub grown : length x.machine.collected ≤ length collected
      pub keeping : Keeping checks n store x.machine.early
      pub collecting : Collecting n x.machine.value collected
      pub stored : Stored n store collected x.machine.obtained

    module _ (said : is_some x.machine.value ≡ true) (quorums : Each (Quorum n) x.machine.obtained) (kept s : ℕ) (v g : List ℕ) (inside : s < n) (sized : length g ≡ signature_length) (checked : checks s v g ≡ true) where
      collected_is : (es : List Entry) → is_collected checks n seat s v g (gathered x es).machine ≡ (same v (own_value x.machine.value) && not (is_from s es))
      unfolding is_collected
      collected_is es = rw (checked, own_is v x.machine.value said)

      module _ (st : State) (y : Reaction) (z : Gathers kept st y) where
        abbrev es : List Entry
        es = z.collected

        abbrev more : List Entry
        more = es ++ e s g x ∷ []

        one_more : length es ≤ length more
        one_more = omega (arith, length-append es (e s g x ∷ []))

        -- among the first k
        both : length es < k n → is_from s es ≡ false → Gathers kept (collect s g st) (add_collected (e s g x) (gathered x es))
        both few new =
            let w = gathered x es in
            let long = fill-length n collected_bank s g z.store collected_bank_lem.0 inside z.room (sized ∙ sym collected_bank_lem.1) in
            record {
              collected = more;
              store = fill n collected_bank s g z.store;
              machine = refl;
              is = ap (collect s g) z.is ∙ collect-kept kept s g (at n seat round w z.store) ∙ ap (kept_with kept) (collect_is s g w few z.store);
              room = subst (λ (l : ℕ). store_length n ≤ l) (sym long) z.room;
              grown = let before = z.grown in let after = one_more in omega arith;
              keeping = keeping_like checks n z.store (fill n collected_bank s g z.store) x.machine.early z.keeping
                  (λ bank t later b l. slot-fill-other n collected_bank s g z.store collected_bank_lem.0 inside z.room (sized ∙ sym collected_bank_lem.1) bank t b l (λ q _. omega arith));
              collecting = collect-collecting s g w few inside sized new (some_is x.machine.value said) z.collecting;
              stored = collect-stored s g w few z.store z.room inside sized new z.collecting.below quorums z.stored;
            }

        -- after the first k: the machine has it, and the record is as before
        beyond : k n ≤ length es → Gathers kept st (add_collected (e s g x) (gathered x es))
        beyond many =
            let w = gathered x es in
            record {
              collected = more;
              store = z.store;
              machine = refl;
              is = z.is ∙ ap (kept_with kept) (beyond_is s g w many z.store);
              room = z.room;
              grown = let before = z.grown in let after = one_more in omega arith;
              keeping = z.keeping;
              collecting = beyond-collecting s g w many inside sized (some_is x.machine.value said) z.collecting;
              stored = beyond-stored s g w many z.store z.stored;
            }

        still_gathers : Gathers kept st (gathered x es)
        still_gathers = record { collected = es; store = z.store; machine = refl; is = z.is; room = z.room; grown = z.grown; keeping = z.keeping; collecting = z.collecting; stored = z.stored }

        abbrev Both : Bool → Bool → Type 0
        Both c d = Gathers kept (cond c (collect s g st) st) (cond d (add_collected (e s g x) (gathered x es)) (gathered x es))

        -- the engine's test and the machine's
        pub gather : (b : Bool) → b ≡ wants n x s v es → Gathers kept (cond b (collect s g st) st) (collecting checks n seat s v g y)
        unfolding collecting
        gather b p =
            subst (λ (w : Reaction). Gathers kept (cond b (collect s g st) st) (cond (is_collected checks n seat s v g w.machine) (add_collected (e s g x) w) w)) (sym z.machine)
            (go (leb (k n) (length es)) refl (same v (own_value x.machine.value)) refl (is_from s es) refl)
          where
            told : (c d : Bool) → wants n x s v es ≡ c → (same v (own_value x.machine.value) && not (is_from s es)) ≡ d → Both c d → Both b (is_collected checks n seat s v g (gathered x es).machine)
            told c d q r h = rw (p ∙ q, collected_is es ∙ r) h

            new : (d : Bool) → is_from s es ≡ d → length es < k n → Both (not d) (not d)
            new true r few = still_gathers
            new false r few = both few r

            go : (full : Bool) → leb (k n) (length es) ≡ full → (own : Bool) → same v (own_value x.machine.value) ≡ own → (d : Bool) → is_from s es ≡ d → Both b (is_collected checks n seat s v g (gathered x es).machine)
            go full q false r d t = told false false (rw (r, and-false)) (rw r) still_gathers
            go true q true r true t = told false false (rw q) (rw (r, t)) still_gathers
            go true q true r false t = told false true (rw q) (rw (r, t)) (beyond (leb-true (k n) (length es) q))
            go false q true r d t =
                let few : length es < k n = leb-false (k n) (length es) q in
                let seen : has s (seats_in (take (k n) es)) ≡ d = ap (λ (xs : List Entry). has s (seats_in xs)) (all_before s g (gathered x es) few) ∙ sym (from_seats s es) ∙ t in
                told (not d) (not d) (rw (q, r, seen)) (rw (r, t)) (new d t few)

    -- the rules after it
    pub gathers_rules : (some-seats : 1 ≤ n) → Obtaining n x.machine.obtained x.machine.detected → (x.machine.confirmed ≡ true → (leb (k n) (length x.machine.collected) ≡ true) × Memᴰ (own_value x.machine.value) x.machine.noticed)
        → (kept : ℕ) → kept ≡ kept_of x.machine.value x.machine.early → (st : State) (y : Reaction) → Gathers kept st y → Comes n seat round checks (confirm_if_complete st) (upon_rules checks n seat y)
    unfolding record_of
    gathers_rules some-seats obtaining rested kept p st y z =
        let w = gathered x z.collected in
        let is : st ≡ at n seat round w z.store = z.is ∙ ap (λ (i : ℕ). kept_with i (at n seat round w z.store)) p in
        let a = confirm_is n seat round checks some-seats w z.store z.room z.keeping z.collecting obtaining z.stored
        (λ h.
        let many = leb-true (k n) (length x.machine.collected) (rested h).0 in
        let grown = z.grown in
        (le-leb (k n) (length z.collected) (omega arith), (rested h).1)) in
        subst (λ (u : Reaction). Comes n seat round checks (confirm_if_complete st) (upon_rules checks n seat u)) (sym z.machine)
        (record { store = a.store; is = ap confirm_if_complete is ∙ a.is; mirrors = a.mirrors })
