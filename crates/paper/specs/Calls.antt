-- A whole submit and a whole step, each beside the machine's reaction to its event.
-- Assumes nothing.
use Prim.Native.Nat.{ℕ, zero, suc, ◌≤◌, ◌<◌}
use Rattle.std.specs.Prelude.{◌≡◌, Bool, ◌&&◌, ◌≢◌, leb, length, take}
use Rattle.std.proofs.Math.Path.{refl, sym, ap, subst}
use Rattle.std.proofs.Common.{◌∙◌, true≢false, arith, take_all, length-take-le}
use Rattle.std.proofs.Math.Bool.{true, false, cond, not}
use mathlib.Core.List.Memᴰ
use mathlib.Core.List.{List, [], ◌∷◌, ◌++◌, Memᴰ}
use Rattle.std.proofs.Math.Logic.{⊎_elim}
use Rattle.std.proofs.Math.Option.{Option, none, some}
use Rattle.std.proofs.Math.Dec.{ltb}
use borrow.Author.Tests.{leb-true, leb-false, le-leb, lt-leb, le-ltb, lt-ltb}
use Rattle.octets.specs.Strings.{same}
use Rattle.octets.specs.StringsLaws.{same_refl}
use Rattle.quorum.specs.Quorum.{k, has, size, with}
use Rattle.quorum.specs.QuorumLaws.{has_true, has_false}
use Rattle.protocol.specs.Layout.{value_length, signature_length, banks, store_length, slot_length, collected_bank, first_bank, kept_bank, kept_value_bank}
use Rattle.protocol.specs.LayoutLaws.{collected_bank_lem, first_bank_lem, kept_bank_lem, kept-value_bank}
use Rattle.protocol.specs.Entries.{form_seats}
use Rattle.protocol.specs.Message.{Entry, Signed, Message, Submit, Notice, Full, Evidence, Garbled, full_form}
use Rattle.protocol.specs.Certificate.{slot, kept_value, kept_signature, fill_kept, signature_of, certificate_of, certificate_in}
use Rattle.protocol.specs.Refusals.{Checks}
use Rattle.protocol.specs.ConditionsLaws.{each_every}
use Rattle.protocol.specs.Step.{State, write, collect, set_own_value, submit_own, is_wanted, collect_if_wanted, keep, keep_if_first, hear_submit, is_open_to, collect_kept_seat, collect_kept_below, empty_kept, collect_kept, hear, reply, confirm_if_complete, submitted, stepped}
use Rattle.reading.specs.ListsLaws.{each_one, each_append}
use Rattle.claims.specs.SlotsLaws.{fill_kept-length, kept_value-fill_kept, kept_signature-fill_kept, slot-fill_kept-other}
use Rattle.claims.specs.Sound.{Any, Attested, Entries}
use Rattle.claims.specs.CertificatesLaws.{certifies_of}
use Rattle.claims.specs.Parts.{k_pos, in_below}
use Rattle.claims.specs.Whole.{Brings}
use Rattle.paper.specs.Machine.{FullCertificate, Machine, BroadcastSubmit, Reaction, act, set_value, add_early, add_noticed, is_some, own_value, is_from, first_from, is_full_certificate, collecting, keeping, upon_submit_delivered, taking_up, taking_up_below, upon_submit, upon_notice_delivered, obtain, upon_full_delivered, confirming, upon_quorum, upon_notices_conflict, upon_fulls_conflict, upon_event, upon_rules, react}
use Rattle.paper.specs.Memory.{seats_in, early_seats, kept_of, held_first, record_of}
use Rattle.paper.specs.Events.{delivered, react_to}
use Rattle.paper.specs.ConflictsLaws.{some_none}
use Rattle.paper.specs.EntriesLaws.{from_seats, rising-distinct, first_in_lem, first_some, first_none, first_more, early-more, with_in}
use Rattle.paper.specs.Spoken.{spoken}
use Rattle.paper.specs.Rules.{fulls-quiet}
use Rattle.paper.specs.Mirror.{Quorum, Stored, Keeping, Mirrors}
use Rattle.paper.specs.Parts.{taken-below, first_below, at, Comes, write_is, hear_is, reply_is, reply-mirrors, certificate_is, confirm_is}
use Rattle.paper.specs.Collects.{kept_with, gathered, wants, Gathers, gather, gathers_rules}

pub none_is : {A : Type 0} (o : Option A) → is_some o ≡ false → o ≡ none
unfolding is_some
none_is none e = refl
none_is (some a) e = absurd (true≢false e)

-- before the submission, every seat that was heard is kept
unsaid-kept : (o : Option (List ℕ)) (es : List Signed) → is_some o ≡ false → kept_of o es ≡ early_seats es
unfolding is_some kept_of
unsaid-kept none es e = refl
unsaid-kept (some w) es e = absurd (true≢false e)

module _ (n seat round : ℕ) where
  module _ (checks : Checks) (some-seats : 1 ≤ n) (x : Reaction) (store : List ℕ) (room : store_length n ≤ length store) (z : Mirrors checks n store x.machine) where
    abbrev m : Machine
    m = x.machine

    rested : m.confirmed ≡ true → (leb (k n) (length m.collected) ≡ true) × Memᴰ (own_value m.value) m.noticed
    rested h = (sym z.resting.complete ∙ h, z.resting.heard h)

    -- ---- SUBMIT heard: line 19

    module _ (s : ℕ) (v g : List ℕ) (inside : s < n) (valued : length v ≡ value_length) (good : Attested checks Any s v g) where
      abbrev Result : Type 0
      Result = Comes n seat round checks (confirm_if_complete (hear_submit s v g (at n seat round x store))) (upon_rules checks n seat (upon_submit_delivered checks n seat s v g x))

      comes_by : (st : State) (y : Reaction) → hear_submit s v g (at n seat round x store) ≡ st → upon_submit_delivered checks n seat s v g x ≡ y
          → Comes n seat round checks (confirm_if_complete st) (upon_rules checks n seat y) → Result
      comes_by st y p q a =
          subst (λ (w : Reaction). Comes n seat round checks (confirm_if_complete (hear_submit s v g (at n seat round x store))) (upon_rules checks n seat w)) (sym q)
          (record { store = a.store; is = ap confirm_if_complete p ∙ a.is; mirrors = a.mirrors })

      -- after the submission it is collected
      heard_after : is_some m.value ≡ true → Result
      unfolding hear_submit collect_if_wanted is_wanted upon_submit_delivered record_of
      heard_after said =
          let kept = kept_of m.value m.early in
          let now : Gathers n seat round checks x kept (at n seat round x store) x =
          record { collected = m.collected; store = store; machine = refl; is = refl; room = room; grown = omega arith; keeping = z.keeping; collecting = z.collecting; stored = z.stored } in
          let wanted : is_wanted s v (record_of n seat round m) ≡ wants n x s v m.collected =
          ap (λ (b : Bool). not b && same v (own_value m.value) && not (has s (seats_in (take (k n) m.collected)))) z.resting.complete in
          let next = gather n seat round checks x said z.obtaining.quorums kept s v g inside good.sized good.checked (at n seat round x store) x now (is_wanted s v (record_of n seat round m)) wanted in
          comes_by _ _ (ap (λ (b : Bool). cond b (collect_if_wanted s v g (at n seat round x store)) (keep_if_first s v g (at n seat round x store))) said)
          (ap (λ (b : Bool). cond b (collecting checks n seat s v g x) (keeping checks n seat s v g x)) said)
          (gathers_rules n seat round checks x some-seats z.obtaining rested kept refl _ _ next)

      -- before it, the machine has it with all others, and the engine keeps the first of a seat
      abbrev one : Signed
      one = record { seat = s; value = v; signature = g }

      module _ (unsaid : is_some m.value ≡ false) where
        kept_is : (es : List Signed) → kept_of m.value es ≡ early_seats es
        kept_is es = unsaid-kept m.value es unsaid

        abbrev Kept : ℕ → List ℕ → Signed → Type 0
        Kept t st b = (kept_value n st t ≡ b.value) × (kept_signature n st t ≡ b.signature)

        -- whether the seat is kept already or not, from the record and the store that are left
        finish : (b : Bool) → has s (kept_of m.value m.early) ≡ b → (st : List ℕ) → store_length n ≤ length st
            → cond b (at n seat round x store) (keep s v g (at n seat round x store)) ≡ kept_with (kept_of m.value (m.early ++ one ∷ [])) (at n seat round x st)
            → ((t : ℕ) (b : Signed) → first_from t (m.early ++ one ∷ []) ≡ some b → Kept t st b) → Stored n st m.collected m.obtained → Result
        unfolding hear_submit keep_if_first upon_submit_delivered keeping record_of
        finish b h st long is kept stored =
            let P : Signed → Type 0 = λ a. (a.seat < n) × Attested checks Any a.seat a.value a.signature in
            let keeps : Keeping checks n st (m.early ++ one ∷ []) = record { signed = each_append P m.early (one ∷ []) z.keeping.signed (each_one P one (inside, good)); stored = kept } in
            comes_by (at n seat round (add_early one x) st) (add_early one x)
            (ap (λ (b : Bool). cond b (collect_if_wanted s v g (at n seat round x store)) (keep_if_first s v g (at n seat round x store))) unsaid
            ∙ ap (λ (b : Bool). cond b (at n seat round x store) (keep s v g (at n seat round x store))) h
            ∙ is)
            (ap (λ (b : Bool). cond b (collecting checks n seat s v g x) (keeping checks n seat s v g x)) unsaid ∙ ap (λ (b : Bool). cond b (add_early one x) x) good.checked)
            (confirm_is n seat round checks some-seats (add_early one x) st long keeps z.collecting z.obtaining stored rested)

        -- a seat that is kept already
        heard-again : (a : Signed) → first_from s m.early ≡ some a → Result
        unfolding record_of
        heard-again a h =
            let seen = first_some s m.early a h in
            let still : kept_of m.value (m.early ++ one ∷ []) ≡ kept_of m.value m.early = kept_is (m.early ++ one ∷ []) ∙ early-more m.early one ∙ with_in s (early_seats m.early) seen ∙ sym (kept_is m.early) in
            finish true (ap (has s) (kept_is m.early) ∙ (has_true s (early_seats m.early)).1 seen) store room
            (ap (λ (i : ℕ). kept_with i (at n seat round x store)) (sym still))
            (λ t b q. ⊎_elim (z.keeping.stored t b) (λ r. absurd (some_none a (first_from s m.early) h (subst (λ (i : ℕ). first_from i m.early ≡ none) (sym r.1) r.0))) (first_more t m.early one b q))
            z.stored

        -- the first of its seat
        module _ (h : first_from s m.early ≡ none) where
          abbrev store' : List ℕ
          store' = fill_kept n s v g store

          wide : length g ≡ slot_length kept_bank
          wide = good.sized ∙ sym kept_bank_lem.1

          aside : (bank t : ℕ) → bank < length banks → t < n → (kept_value_bank ≡ bank → s ≡ t → ⊥) → (kept_bank ≡ bank → s ≡ t → ⊥) → slot n bank store' t ≡ slot n bank store t
          aside = slot-fill_kept-other n s v g store inside room valued wide

          kept_before_lem : (t : ℕ) (b : Signed) → first_from t m.early ≡ some b → Kept t store' b
          kept_before_lem t b r =
              let apart : s ≢ t = λ q. some_none b (first_from t m.early) r (subst (λ (i : ℕ). first_from i m.early ≡ none) q h) in
              let f = first_in_lem t m.early b r in
              let here : t < n = subst (λ (i : ℕ). i < n) f.1 (z.keeping.signed b f.0).0 in
              let before = z.keeping.stored t b r in
              (aside kept_value_bank t kept-value_bank.0 here (λ _ q. apart q) (λ q _. omega arith) ∙ before.0, aside kept_bank t kept_bank_lem.0 here (λ q _. omega arith) (λ _ q. apart q) ∙ before.1)

          kept-now : (t : ℕ) (b : Signed) → s ≡ t → b ≡ one → Kept t store' b
          kept-now t b p q = rw (← p, q) (kept_value-fill_kept n s v g store inside room valued wide, kept_signature-fill_kept n s v g store inside room valued wide)

          heard_first : Result
          unfolding keep record_of
          heard_first =
              finish false (ap (has s) (kept_is m.early) ∙ (has_false s (early_seats m.early)).1 (first_none s m.early h)) store' (subst (λ (l : ℕ). store_length n ≤ l) (sym (fill_kept-length n s v g store inside room valued wide)) room)
              (ap (λ (i : ℕ). kept_with i (at n seat round x store')) (ap (with s) (kept_is m.early) ∙ sym (early-more m.early one) ∙ sym (kept_is (m.early ++ one ∷ []))))
              (λ t b q. ⊎_elim (kept_before_lem t b) (λ r. kept-now t b r.1 r.2) (first_more t m.early one b q))
              (record {
                own = λ t i. aside collected_bank t collected_bank_lem.0 (in_below n t (seats_in (take (k n) m.collected)) (taken-below n m.collected z.collecting.below) i) (λ q _. omega arith) (λ q _. omega arith) ∙ z.stored.own t i;
                first = λ t i. aside first_bank t first_bank_lem.0 (in_below n t (held_first m.obtained).seats (first_below n m.obtained z.obtaining.quorums) i) (λ q _. omega arith) (λ q _. omega arith) ∙ z.stored.first t i;
              })

        heard_before : (o : Option Signed) → first_from s m.early ≡ o → Result
        heard_before (some a) h = heard-again a h
        heard_before none h = heard_first h

      submit-heard : Result
      submit-heard = go (is_some m.value) refl
        where
          go : (b : Bool) → is_some m.value ≡ b → Result
          go true e = heard_after e
          go false e = heard_before e (first_from s m.early) refl

    -- ---- submit: line 16

    module _ (v g : List ℕ) (unsaid : is_some m.value ≡ false) (inside : seat < n) (sized : length g ≡ signature_length) (checked : checks seat v g ≡ true) where
      nothing : m.collected ≡ []
      nothing = z.collecting.unsaid (none_is m.value unsaid)

      few : length m.collected < k n
      few = let none_yet = ap length nothing in let p = k_pos n some-seats in omega arith

      unconfirmed : m.confirmed ≡ false
      unconfirmed = z.resting.complete ∙ lt-leb (k n) (length m.collected) few

      -- the machine with its value, and the seats kept so far
      abbrev y : Reaction
      y = record { machine = (set_value v x).machine; actions = x.actions ++ BroadcastSubmit v g ∷ [] }

      abbrev kept : ℕ
      kept = kept_of m.value m.early

      said : is_some y.machine.value ≡ true
      unfolding is_some
      said = refl

      abbrev Gathering : State → Reaction → Type 0
      Gathering st w = Gathers n seat round checks y kept st w

      starting : Gathering (kept_with kept (at n seat round y store)) y
      starting = record {
        collected = m.collected;
        store = store;
        machine = refl;
        is = refl;
        room = room;
        grown = omega arith;
        keeping = z.keeping;
        collecting = record { unsaid = λ h. absurd (some_none v (some v) refl h); below = z.collecting.below; sized = z.collecting.sized; counted = z.collecting.counted };
        stored = z.stored;
      }

      -- ---- the own signature

      new-seat : is_from seat m.collected ≡ false
      unfolding is_from
      new-seat = ap (is_from seat) nothing

      own-wanted : true ≡ wants n y seat v m.collected
      unfolding own_value
      own-wanted =
          let unseen : has seat (seats_in (take (k n) m.collected)) ≡ false = ap (λ (es : List Entry). has seat (seats_in es)) (take_all (k n) m.collected (let less = few in omega arith)) ∙ sym (from_seats seat m.collected) ∙ new-seat in
          rw (lt-leb (k n) (length m.collected) few, same_refl v, unseen)

      own-recorded : submit_own v g (at n seat round x store) ≡ collect seat g (kept_with kept (at n seat round y store))
      unfolding submit_own write collect set_own_value record_of is_some own_value spoken act
      own-recorded = ap (λ (st : State). collect seat g (kept_with kept st)) (write_is n seat round (BroadcastSubmit v g) (set_value v x) store)

      own_gathers : Gathering (submit_own v g (at n seat round x store)) (collecting checks n seat seat v g y)
      unfolding starting
      own_gathers =
          subst (λ (st : State). Gathering st (collecting checks n seat seat v g y)) (sym own-recorded)
          (gather n seat round checks y said z.obtaining.quorums kept seat v g inside sized checked (kept_with kept (at n seat round y store)) y starting true own-wanted)

      -- ---- those kept, seat by seat

      module _ (t : ℕ) (l : t < n) (st : State) (w : Reaction) (a : Gathering st w) where
        abbrev now : State
        now = kept_with kept (at n seat round (gathered y a.collected) a.store)

        under_is : ltb (size (seats_in (take (k n) a.collected))) (k n) ≡ not (leb (k n) (length a.collected))
        under_is = go (leb (k n) (length a.collected)) refl
          where
            go : (b : Bool) → leb (k n) (length a.collected) ≡ b → ltb (size (seats_in (take (k n) a.collected))) (k n) ≡ not b
            go true e =
                let all = a.collecting.counted ∙ length-take-le (k n) a.collected (leb-true (k n) (length a.collected) e) in
                le-ltb (size (seats_in (take (k n) a.collected))) (k n) (omega arith)
            go false e =
                let less = leb-false (k n) (length a.collected) e in
                let all = a.collecting.counted ∙ ap length (take_all (k n) a.collected (omega arith)) in
                lt-ltb (size (seats_in (take (k n) a.collected))) (k n) (omega arith)

        -- no SUBMIT of the seat came
        closed : first_from t m.early ≡ none → collect_kept_seat t now ≡ now
        unfolding collect_kept_seat is_open_to record_of
        closed h =
            let unkept : has t kept ≡ false = ap (has t) (unsaid-kept m.value m.early unsaid) ∙ (has_false t (early_seats m.early)).1 (first_none t m.early h) in
            rw unkept

        -- its first is collected where it is wanted
        opened : (e : Signed) → first_from t m.early ≡ some e → collect_kept_seat t now ≡ cond (wants n y t e.value a.collected) (collect t e.signature now) now
        unfolding collect_kept_seat is_open_to collect_if_wanted is_wanted record_of own_value
        opened e h =
            let first = a.keeping.stored t e h in
            let kept-some : has t kept ≡ true = ap (has t) (unsaid-kept m.value m.early unsaid) ∙ (has_true t (early_seats m.early)).1 (first_some t m.early e h) in
            ap (λ (b : Bool). cond (has t kept && ltb (size (seats_in (take (k n) a.collected))) (k n))
            (cond (not b && same (kept_value n a.store t) v && not (has t (seats_in (take (k n) a.collected)))) (collect t (kept_signature n a.store t) now) now) now) unconfirmed
            ∙ rw (kept-some, first.0, first.1, under_is)
            (merge (leb (k n) (length a.collected)) (same e.value v) (not (has t (seats_in (take (k n) a.collected)))) (collect t e.signature now) now)
          where
            merge : (full own new : Bool) (c d : State) → cond (not full) (cond (own && new) c d) d ≡ cond (not full && own && new) c d
            merge true own new c d = refl
            merge false own new c d = refl

        seat_gathers : Gathering (collect_kept_seat t st) (taking_up checks n seat (first_from t m.early) w)
        unfolding taking_up
        seat_gathers = go (first_from t m.early) refl
          where
            go : (o : Option Signed) → first_from t m.early ≡ o → Gathering (collect_kept_seat t st) (taking_up checks n seat o w)
            go none h = subst (λ (u : State). Gathering u w) (sym (ap (collect_kept_seat t) a.is ∙ closed h ∙ sym a.is)) a
            go (some e) h =
                let f = first_in_lem t m.early e h in
                let good = (z.keeping.signed e f.0).1 in
                let is : collect_kept_seat t st ≡ cond (wants n y t e.value a.collected) (collect t e.signature st) st =
                ap (collect_kept_seat t) a.is ∙ opened e h ∙ ap (λ (u : State). cond (wants n y t e.value a.collected) (collect t e.signature u) u) (sym a.is) in
                let of-seat : checks t e.value e.signature ≡ true = subst (λ (i : ℕ). checks i e.value e.signature ≡ true) f.1 good.checked in
                subst (λ (u : State). Gathering u (collecting checks n seat e.seat e.value e.signature w)) (sym is)
                (subst (λ (i : ℕ). Gathering (cond (wants n y t e.value a.collected) (collect t e.signature st) st) (collecting checks n seat i e.value e.signature w)) (sym f.1)
                (gather n seat round checks y said z.obtaining.quorums kept t e.value e.signature l good.sized of-seat st w a (wants n y t e.value a.collected) refl))

      below_gathers : (t : ℕ) → t ≤ n → Gathering (collect_kept_below t (submit_own v g (at n seat round x store))) (taking_up_below checks n seat t m.early (collecting checks n seat seat v g y))
      unfolding collect_kept_below taking_up_below
      below_gathers zero l = own_gathers
      below_gathers (suc t) l =
          seat_gathers t (omega arith) (collect_kept_below t (submit_own v g (at n seat round x store))) (taking_up_below checks n seat t m.early (collecting checks n seat seat v g y)) (below_gathers t (omega arith))

      -- ---- the whole

      emptied : (st : State) (w : Reaction) → Gathering st w → Gathers n seat round checks y 0 (empty_kept st) w
      unfolding empty_kept
      emptied st w a = record {
        collected = a.collected;
        store = a.store;
        machine = a.machine;
        is = ap empty_kept a.is;
        room = a.room;
        grown = a.grown;
        keeping = a.keeping;
        collecting = a.collecting;
        stored = a.stored;
      }

      all_seats : collect_kept (submit_own v g (at n seat round x store)) ≡ empty_kept (collect_kept_below n (submit_own v g (at n seat round x store)))
      unfolding collect_kept submit_own write collect set_own_value record_of
      all_seats = refl

      pub submit_is : Comes n seat round checks (submitted v g (at n seat round x store)) (upon_rules checks n seat (upon_submit checks n seat v g x))
      unfolding submitted upon_submit act kept_of
      submit_is =
          let st = collect_kept_below n (submit_own v g (at n seat round x store)) in
          let w = taking_up_below checks n seat n m.early (collecting checks n seat seat v g y) in
          subst (λ (u : State). Comes n seat round checks (confirm_if_complete u) (upon_rules checks n seat w)) (sym all_seats)
          (gathers_rules n seat round checks y some-seats z.obtaining (λ h. absurd (true≢false (sym h ∙ unconfirmed))) 0 refl (empty_kept st) w (emptied st w (below_gathers n (omega arith))))

    -- ---- NOTICE and FULL heard: lines 29 and 35

    -- the rule of line 25 does nothing where `confirmed` tells whether k seats are collected
    quorum-quiet : (y : Reaction) → y.machine.confirmed ≡ leb (k n) (length y.machine.collected) → upon_quorum checks n seat y ≡ y
    unfolding upon_quorum
    quorum-quiet y h = go (leb (k n) (length y.machine.collected)) h
      where
        go : (b : Bool) → y.machine.confirmed ≡ b → cond (not y.machine.confirmed && b) (confirming checks n seat y) y ≡ y
        go true p = rw p
        go false p = rw p

    noticed_too : (v : List ℕ) → Mirrors checks n store (add_noticed v x).machine
    noticed_too v = record {
      keeping = z.keeping;
      collecting = z.collecting;
      obtaining = z.obtaining;
      stored = z.stored;
      resting = record { complete = z.resting.complete; heard = λ h. Memᴰ.append_left (v ∷ []) (z.resting.heard h) };
    }

    notice_is : (v : List ℕ) → Comes n seat round checks (reply (hear v (at n seat round x store))) (upon_rules checks n seat (upon_notice_delivered checks n seat v x))
    unfolding upon_rules upon_notice_delivered
    notice_is v =
        let y = add_noticed v x in
        let w = noticed_too v in
        let now = upon_notices_conflict checks n seat y in
        let rules : upon_rules checks n seat y ≡ now =
        ap (λ (r : Reaction). upon_fulls_conflict checks n seat (upon_notices_conflict checks n seat r)) (quorum-quiet y z.resting.complete) ∙ fulls-quiet checks n seat now (reply-mirrors n seat round checks y store w).obtaining.quiet in
        subst (Comes n seat round checks (reply (hear v (at n seat round x store)))) (sym rules)
        (record { store = store; is = ap reply (hear_is n seat round v x store) ∙ reply_is n seat round checks y store w; mirrors = reply-mirrors n seat round checks y store w })

    -- a FULL that a step takes is a valid full certificate
    full-valid : (v : List ℕ) (es : List Entry) → Entries checks Any n v es → is_full_certificate checks n seat (record { value = v; entries = es }) ≡ true
    unfolding is_full_certificate
    full-valid v es h =
        let many = h.many in
        rw (
          le-leb (k n) (length es) (omega arith),
          rising-distinct es h.rise,
          each_every (λ (a : Entry). checks a.seat v a.signature) es (λ a d. (h.attested a d).checked),
        )

    full-quorum : (v : List ℕ) (es : List Entry) → Entries checks Any n v es → Quorum n (record { value = v; entries = es })
    unfolding certificate_of form_seats full_form seats_in
    full-quorum v es h =
        let c = certifies_of checks Any n v es h in
        record { below = c.below; enough = c.enough; sized = λ s i. (c.attested s i).sized }

    full_is : (ρ sender : ℕ) (v : List ℕ) (es : List Entry) → Entries checks Any n v es
        → Comes n seat round checks (stepped (Full ρ sender v es) (at n seat round x store)) (upon_rules checks n seat (upon_full_delivered checks n seat (record { value = v; entries = es }) x))
    unfolding stepped certificate_in certificate_of form_seats full_form seats_in upon_full_delivered upon_rules obtain upon_notice_delivered
    full_is ρ sender v es h =
        let q : FullCertificate = record { value = v; entries = es } in
        let y = obtain checks n seat q x in
        let a = certificate_is n seat round checks some-seats q (signature_of es) (λ s i. refl) (full-quorum v es h) x store room (noticed_too v) in
        let machine : upon_rules checks n seat (upon_full_delivered checks n seat q x) ≡ upon_fulls_conflict checks n seat (upon_notices_conflict checks n seat y) =
        ap (λ (b : Bool). upon_rules checks n seat (cond b y x)) (full-valid v es h)
        ∙ ap (λ (r : Reaction). upon_fulls_conflict checks n seat (upon_notices_conflict checks n seat r)) (quorum-quiet y z.resting.complete) in
        subst (Comes n seat round checks (stepped (Full ρ sender v es) (at n seat round x store))) (sym machine) a

  -- ---- a step

  abbrev still : Machine → Reaction
  still m = record { machine = m; actions = [] }

  pub step_is : (checks : Checks) (keys : List ℕ) (m : Machine) (store : List ℕ) (msg : Message) → 1 ≤ n → store_length n ≤ length store → Mirrors checks n store m → Brings checks Any (record_of n seat round m) msg
      → Comes n seat round checks (stepped msg (at n seat round (still m) store)) (react_to checks n seat (delivered msg) m)
  unfolding stepped delivered react_to react upon_event record_of
  step_is checks keys m store (Submit ρ s v g) some-seats room z b = submit-heard checks some-seats (still m) store room z s v g b.0 b.1 b.2
  step_is checks keys m store (Notice ρ s v) some-seats room z b = notice_is checks some-seats (still m) store room z v
  step_is checks keys m store (Full ρ sender v es) some-seats room z b = full_is checks some-seats (still m) store room z ρ sender v es b
  step_is checks keys m store (Evidence ρ form ps) some-seats room z b = record { store = store; is = refl; mirrors = z }
  step_is checks keys m store Garbled some-seats room z b = record { store = store; is = refl; mirrors = z }
