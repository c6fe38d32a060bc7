-- The parts of a submit and a step, each beside the machine's `upon`: from the record of the machine's state to the record of its
-- next state, with the machine's messages written.
-- Assumes nothing.
use Rattle.std.specs.Prelude.{ℕ, ◌^◌, ◌≤◌, ◌<◌, ◌≡◌, Bool, ◌&&◌, ◌≢◌, leb, take}
use Rattle.std.proofs.Math.Path.{refl, sym, ap, ap₂, subst}
use Rattle.std.proofs.Common.{◌∙◌, true≢false, ⊎_elim, arith, pow_pos, take_all, leb-true, leb-false, eq-eqb, ne_eqb}
use Rattle.std.proofs.Math.Bool.{true, false, cond, not}
use mathlib.Core.List.Memᴰ
use mathlib.Core.List.{List, [], ◌∷◌, ◌++◌, map, map-append, Memᴰ}
use Rattle.std.proofs.Math.Option.{Option, none, some}
use Rattle.std.proofs.Math.Dec.{eqb}
use Rattle.std.proofs.Math.ListN.{length}
use Rattle.std.proofs.Math.Seq.{length-take-le}
use Rattle.octets.specs.Strings.{same}
use Rattle.octets.specs.StringsLaws.{same_refl}
use Rattle.quorum.specs.Quorum.{k, In, size, union, seats}
use Rattle.quorum.specs.QuorumLaws.{size-empty, mem-seats}
use Rattle.protocol.specs.Layout.{signature_length, banks, store_length, collected_bank, first_bank, kept_bank, kept_value_bank}
use Rattle.protocol.specs.LayoutLaws.{collected_bank_lem, first_bank_lem, kept_bank_lem, kept-value_bank}
use Rattle.protocol.specs.Entries.{form_seats}
use Rattle.protocol.specs.Message.{Entry, Signed, Message, full_form}
use Rattle.protocol.specs.Certificate.{Certificate, slot, fill_each, own_certificate, first_certificate, set_of, signature_of, certificate_of, evidence_of}
use Rattle.protocol.specs.Record.{with_notices, with_guilty, none_heard, one_heard, holds}
use Rattle.protocol.specs.Refusals.{Checks}
use Rattle.protocol.specs.Step.{State, with_unit, write, notices_with, hear, other_heard, owes_full, send_full, reply, hold, found, blame, blames, hold_or_blame, hear_certificate, is_complete, confirm, hear_own, confirm_if_complete}
use Rattle.protocol.specs.declared.Notices.{Notices}
use Rattle.protocol.specs.declared.Record.{Record}
use Rattle.round.specs.Round.{Each}
use Rattle.reading.specs.ListsLaws.{cond_elim, each_nil, each_one, each_append}
use Rattle.claims.specs.Parts.{k_pos, in_below}
use Rattle.claims.specs.SlotsLaws.{slot-fill_each-other, slot-fill_each_same}
use Rattle.paper.specs.Machine.{FullCertificate, Machine, Action, ConfirmAndNotice, BroadcastFull, Detect, Reaction, act, set_confirmed, add_noticed, add_obtained, add_detected, set_certificates, set_sent, is_some, own_value, other, pair_or, conflict, value_of_notice, newly, shows_more, own_full, upon_notice_delivered, obtain, confirming, upon_quorum, sending, upon_notices_conflict, detecting, upon_conflict, upon_conflicts, upon_conflicts_in, upon_fulls_conflict, upon_rules}
use Rattle.paper.specs.Memory.{seats_in, notices_of, held_first, record_of, first_entries}
use Rattle.paper.specs.ConflictsLaws.{same_sym, other_none, other-more, other-still, conflict-head}
use Rattle.paper.specs.NewlyLaws.{shows_no_more, still_no_more}
use Rattle.paper.specs.EntriesLaws.{seats-below, set-empty, set_append, set-newly, newly-within, signature_each, full_same, evidence_same, each_take, first_in_lem}
use Rattle.paper.specs.Spoken.{spoken}
use Rattle.paper.specs.Rules.{Quiet, conflict_last, fulls-quiet}
use Rattle.paper.specs.Mirror.{Collecting, Quorum, Obtaining, Stored, Keeping, Mirrors}

-- ---- notices

-- the notices with one more value
notices-more : (v : List ℕ) (vs : List (List ℕ)) (r : Record) → r.notices ≡ notices_of vs → notices_with v r ≡ notices_of (vs ++ v ∷ [])
unfolding notices_with none_heard one_heard notices_of other is_some
notices-more v [] r e = rw e
notices-more v (w ∷ vs) r e = rw e (go (other value_of_notice w vs) refl)
  where
    now : Bool → Notices
    now b = record { heard = cond b 2 1; value = w }

    first : (b : Bool) → same v w ≡ b → cond (not (same v w)) (now true) (now false) ≡ now (is_some (cond (same w v) none (some v)))
    first true q = rw (same_sym w v, q)
    first false q = rw (same_sym w v, q)

    go : (o : Option (List ℕ)) → other value_of_notice w vs ≡ o
        → cond (eqb (cond (is_some o) 2 1) 0) (record { heard = 1; value = v }) (cond (eqb (cond (is_some o) 2 1) 1 && not (same v w)) (record { heard = 2; value = w }) (record { heard = cond (is_some o) 2 1; value = w }))
        ≡ now (is_some (other value_of_notice w (vs ++ v ∷ [])))
    go none q = rw (other-more value_of_notice w vs v q) (first (same v w) refl)
    go (some u) q = rw (other-still value_of_notice w vs v u q)

-- where the own value is among those noticed: another one is heard exactly where two conflict
other-heard_is : (vs : List (List ℕ)) (r : Record) → r.notices ≡ notices_of vs → Memᴰ r.own.value vs → other_heard r ≡ is_some (conflict value_of_notice vs)
unfolding other_heard none_heard one_heard notices_of is_some pair_or
other-heard_is [] r e d = absurd (Memᴰ.not-nil d)
other-heard_is (v ∷ vs) r e d = rw (e, conflict-head value_of_notice v vs) (go (other value_of_notice v vs) refl)
  where
    go : (o : Option (List ℕ)) → other value_of_notice v vs ≡ o
        → cond (eqb (cond (is_some o) 2 1) 0) false (cond (eqb (cond (is_some o) 2 1) 1) (not (same v r.own.value)) true) ≡ is_some (pair_or v o none)
    go none q =
        let own : r.own.value ≡ v = ⊎_elim (λ p. p) (λ t. other_none value_of_notice v vs q r.own.value t) (Memᴰ.cases_cons d) in
        rw (own, same_refl v)
    go (some w) q = refl

-- ---- the first of a list

pub taken-below : (n : ℕ) (es : List Entry) → Each (λ (e : Entry). e.seat < n) es → seats_in (take (k n) es) < 2 ^ n
taken-below n es h = seats-below n (take (k n) es) (each_take (λ (e : Entry). e.seat < n) (k n) es h)

pub first_below : (n : ℕ) (obtained : List FullCertificate) → Each (Quorum n) obtained → (held_first obtained).seats < 2 ^ n
unfolding held_first
first_below n [] h = pow_pos n
first_below n (c ∷ cs) h = (h c (Memᴰ.head refl)).below

-- ---- the kept slots, where they are as before

pub keeping_like : (checks : Checks) (n : ℕ) (store store' : List ℕ) (early : List Signed) → Keeping checks n store early
    → ((bank s : ℕ) → kept_bank ≤ bank → bank < length banks → s < n → slot n bank store' s ≡ slot n bank store s) → Keeping checks n store' early
keeping_like checks n store store' early z like = record {
  signed = z.signed;
  stored = λ s e h.
      let f = first_in_lem s early e h in
      let here : s < n = subst (λ (t : ℕ). t < n) f.1 (z.signed e f.0).0 in
      let old = z.stored s e h in
      (like kept_value_bank s (omega arith) kept-value_bank.0 here ∙ old.0, like kept_bank s (omega arith) kept_bank_lem.0 here ∙ old.1);
}

-- ---- record, store and messages beside the machine

module _ (n seat round : ℕ) where
  abbrev pub at : Reaction → List ℕ → State
  at x store = record { unit = record_of n seat round x.machine; store = store; written = map (spoken n round seat) x.actions }

  at_cond : (b : Bool) (x y : Reaction) (store : List ℕ) → cond b (at x store) (at y store) ≡ at (cond b x y) store
  at_cond true x y store = refl
  at_cond false x y store = refl

  pub write_is : (a : Action) (x : Reaction) (store : List ℕ) → write (spoken n round seat a) (at x store) ≡ at (act a x) store
  unfolding write act
  write_is a x store =
      ap (λ (ws : List Message). record { unit = record_of n seat round x.machine; store = store; written = ws }) (sym (map-append (spoken n round seat) x.actions (a ∷ [])))

  pub hear_is : (v : List ℕ) (x : Reaction) (store : List ℕ) → hear v (at x store) ≡ at (add_noticed v x) store
  unfolding hear record_of
  hear_is v x store =
      ap (λ (y : Notices). with_unit (at x store) (with_notices (record_of n seat round x.machine) y))
      (notices-more v x.machine.noticed (record_of n seat round x.machine) refl)

  -- ---- reply: line 33

  owes_is : (m : Machine) → (m.confirmed ≡ true → Memᴰ (own_value m.value) m.noticed) → owes_full (record_of n seat round m) ≡ (m.confirmed && not m.sent && is_some (conflict value_of_notice m.noticed))
  unfolding owes_full record_of
  owes_is m heard = go m.confirmed refl
    where
      go : (b : Bool) → m.confirmed ≡ b → (b && not m.sent && other_heard (record_of n seat round m)) ≡ (b && not m.sent && is_some (conflict value_of_notice m.noticed))
      go true e = ap (λ (o : Bool). not m.sent && o) (other-heard_is m.noticed (record_of n seat round m) refl (heard e))
      go false e = refl

  module _ (checks : Checks) where
    -- a state of the engine that mirrors the machine's
    pub record Comes (s : State) (x : Reaction) : Type 0 where
      pub store : List ℕ
      pub is : s ≡ at x store
      pub mirrors : Mirrors checks n store x.machine

    send_is : (x : Reaction) (store : List ℕ) → ((s : ℕ) → In s (seats_in (take (k n) x.machine.collected)) → slot n collected_bank store s ≡ signature_of (take (k n) x.machine.collected) s)
        → send_full (at x store) ≡ at (sending checks n seat x) store
    unfolding send_full own_certificate record_of sending spoken certificate_of form_seats full_form own_full seats_in
    send_is x store own =
        let m = x.machine in
        ap (λ (y : Message). write y (at (set_sent x) store)) (full_same n round seat (own_value m.value) (seats_in (take (k n) m.collected)) (slot n collected_bank store) (signature_of (take (k n) m.collected)) own)
        ∙ write_is (BroadcastFull (own_full checks n seat m)) (set_sent x) store

    pub reply_is : (x : Reaction) (store : List ℕ) → Mirrors checks n store x.machine → reply (at x store) ≡ at (upon_notices_conflict checks n seat x) store
    unfolding reply upon_notices_conflict
    reply_is x store z =
        let m = x.machine in
        let b = m.confirmed && not m.sent && is_some (conflict value_of_notice m.noticed) in
        ap (λ (o : Bool). cond o (send_full (at x store)) (at x store)) (owes_is m z.resting.heard)
        ∙ ap (λ (y : State). cond b y (at x store)) (send_is x store z.stored.own)
        ∙ at_cond b (sending checks n seat x) x store

    pub reply-mirrors : (x : Reaction) (store : List ℕ) → Mirrors checks n store x.machine → Mirrors checks n store (upon_notices_conflict checks n seat x).machine
    unfolding upon_notices_conflict sending act
    reply-mirrors x store z =
        cond_elim (λ y. Mirrors checks n store y.machine) (x.machine.confirmed && not x.machine.sent && is_some (conflict value_of_notice x.machine.noticed)) (sending checks n seat x) x
        (λ e. record { keeping = z.keeping; collecting = z.collecting; obtaining = z.obtaining; stored = z.stored; resting = z.resting }) (λ e. z)

    -- ---- hold or blame: line 39

    module _ (some-seats : 1 ≤ n) (q : FullCertificate) (signature : ℕ → List ℕ) (agree : (s : ℕ) → In s (seats_in q.entries) → signature s ≡ signature_of q.entries s) (y : Quorum n q) where
      abbrev c : Certificate
      c = record { value = q.value; seats = seats_in q.entries; signature = signature }

      quorum_some : (d : FullCertificate) → Quorum n d → seats_in d.entries ≢ 0
      quorum_some d z e = let none_in = ap size e ∙ size-empty in let p = k_pos n some-seats in let h = z.enough in omega arith

      fit : Each (λ s. (s < n) × (length (signature s) ≡ signature_length)) (seats n (seats_in q.entries))
      fit s d = let m = (mem-seats n s (seats_in q.entries)).0 d in (m.0, ap length (agree s m.1) ∙ y.sized s m.1)

      module _ (x : Reaction) (store : List ℕ) (room : store_length n ≤ length store) where
        abbrev with_certificates : List FullCertificate → List ℕ → Reaction
        with_certificates obtained detected = set_certificates x.machine.noticed obtained x.machine.sent detected x

        abbrev Mirrored : List FullCertificate → List ℕ → Type 0
        Mirrored obtained detected = Mirrors checks n store (with_certificates obtained detected).machine

        -- "The first is held."
        hold_mirror : (detected : List ℕ) → Mirrored [] detected
            → Mirrors checks n (fill_each n first_bank signature (seats n (seats_in q.entries)) store) (with_certificates (q ∷ []) detected).machine
        unfolding held_first first_entries
        hold_mirror detected z = record {
          keeping = keeping_like checks n store (fill_each n first_bank signature (seats n (seats_in q.entries)) store) x.machine.early z.keeping
              (λ bank t later b l. slot-fill_each-other n first_bank signature first_bank_lem (seats n (seats_in q.entries)) store bank t fit room b l (λ u d p _. omega arith));
          collecting = z.collecting;
          obtaining = record { quorums = each_one (Quorum n) q y; quiet = each_nil (λ d. shows_more detected q d ≡ false) };
          stored = record {
            own = λ s i.
                slot-fill_each-other n first_bank signature first_bank_lem (seats n (seats_in q.entries)) store collected_bank s fit room collected_bank_lem.0
                (in_below n s (seats_in (take (k n) x.machine.collected)) (taken-below n x.machine.collected z.collecting.below) i) (λ u d p _. omega arith)
                ∙ z.stored.own s i;
            first = λ s i.
                slot-fill_each_same n first_bank signature first_bank_lem (seats n (seats_in q.entries)) store s fit room ((mem-seats n s (seats_in q.entries)).1 (in_below n s (seats_in q.entries) y.below i, i))
                ∙ agree s i;
          };
          resting = z.resting;
        }

        -- another certificate, where one is held
        more_mirror : (f : FullCertificate) (rest : List FullCertificate) (old new : List ℕ) → Mirrored (f ∷ rest) old → Quiet new (f ∷ (rest ++ q ∷ [])) → Mirrored (f ∷ (rest ++ q ∷ [])) new
        unfolding held_first first_entries
        more_mirror f rest old new z quiet = record {
          keeping = z.keeping;
          collecting = z.collecting;
          obtaining = record { quorums = each_append (Quorum n) (f ∷ rest) (q ∷ []) z.obtaining.quorums (each_one (Quorum n) q y); quiet = quiet };
          stored = record { own = z.stored.own; first = z.stored.first };
          resting = z.resting;
        }

        module _ (f : FullCertificate) (rest : List FullCertificate) (detected : List ℕ) where
          -- before the certificate comes, and with it obtained
          abbrev before : Reaction
          before = with_certificates (f ∷ rest) detected

          abbrev after : Reaction
          after = with_certificates (f ∷ (rest ++ q ∷ [])) detected

          abbrev new : List ℕ
          new = newly detected f.entries q.entries

          held : Mirrors checks n store before.machine → holds (record_of n seat round before.machine) ≡ true
          unfolding holds record_of held_first
          held z = rw (ne_eqb (seats_in f.entries) 0 (quorum_some f (z.obtaining.quorums f (Memᴰ.head refl))))

          -- it is blamed where it conflicts with the first and shows more
          blames_is : blames c (record_of n seat round before.machine) ≡ shows_more detected f q
          unfolding blames found record_of held_first shows_more
          blames_is =
              ap₂ (λ (a b : Bool). not a && not b) (same_sym q.value f.value) (ap (λ (m : ℕ). eqb m 0) (sym (set-newly detected f.entries q.entries)) ∙ set-empty new)

          -- the first stays the first
          quiet_is : at before store ≡ at after store
          unfolding record_of held_first
          quiet_is = refl

          -- the record blamed, with the seats to write and the guilty set
          abbrev blamed : ℕ → ℕ → State
          blamed mask guilty =
              write (evidence_of n round mask (record { value = f.value; seats = seats_in f.entries; signature = slot n first_bank store }) c)
              (with_unit (at before store) (with_guilty (record_of n seat round before.machine) guilty))

          blame_is : ((s : ℕ) → In s (seats_in f.entries) → slot n first_bank store s ≡ signature_of f.entries s) → blame c (at before store) ≡ at (detecting checks n seat f q after) store
          unfolding blame found first_certificate record_of held_first spoken certificate_of form_seats full_form seats_in detecting
          blame_is first =
              ap (λ (m : ℕ). blamed m (union (set_of detected) m)) (sym (set-newly detected f.entries q.entries))
              ∙ ap (blamed (set_of new)) (sym (set_append detected new))
              ∙ ap (λ (m : Message). write m (at (add_detected new after) store))
              (evidence_same n round (set_of new) f.value q.value (seats_in f.entries) (seats_in q.entries) (slot n first_bank store) (signature_of f.entries) signature (signature_of q.entries)
              (λ s i. first s (newly-within detected f.entries q.entries s i).0) (λ s i. agree s (newly-within detected f.entries q.entries s i).1))
              ∙ write_is (Detect f q new) (add_detected new after) store

          hold_or_blame_is : Mirrors checks n store before.machine → (b : Bool) → shows_more detected f q ≡ b
              → hold_or_blame c (at before store) ≡ at (cond b (detecting checks n seat f q after) after) store
          unfolding hold_or_blame seats_in held_first first_entries
          hold_or_blame_is z true e = rw (held z, blames_is, e) (blame_is z.stored.first)
          hold_or_blame_is z false e = rw (held z, blames_is, e) quiet_is

          -- none that came before shows more, and neither does this one once it was looked at
          now-quiet : Mirrors checks n store before.machine → (b : Bool) → shows_more detected f q ≡ b → Mirrors checks n store (cond b (detecting checks n seat f q after) after).machine
          unfolding detecting act
          now-quiet z true e =
              more_mirror f rest detected (detected ++ new) z
              (each_append (λ d. shows_more (detected ++ new) f d ≡ false) rest (q ∷ []) (λ d m. still_no_more f d detected new (z.obtaining.quiet d m)) (each_one (λ d. shows_more (detected ++ new) f d ≡ false) q (shows_no_more f q detected)))
          now-quiet z false e = more_mirror f rest detected detected z (each_append (λ d. shows_more detected f d ≡ false) rest (q ∷ []) z.obtaining.quiet (each_one (λ d. shows_more detected f d ≡ false) q e))

          blame-comes : Mirrors checks n store before.machine → Comes (hold_or_blame c (at before store)) (upon_fulls_conflict checks n seat after)
          unfolding upon_fulls_conflict upon_conflicts_in upon_conflict
          blame-comes z =
              subst (Comes (hold_or_blame c (at before store))) (sym (conflict_last checks n seat f rest q after z.obtaining.quiet))
              (record { store = store; is = hold_or_blame_is z (shows_more detected f q) refl; mirrors = now-quiet z (shows_more detected f q) refl })

        hold-comes : (detected : List ℕ) → Mirrored [] detected
            → Comes (hold_or_blame c (at (with_certificates [] detected) store)) (upon_fulls_conflict checks n seat (with_certificates (q ∷ []) detected))
        unfolding hold_or_blame hold holds record_of held_first upon_fulls_conflict upon_conflicts_in upon_conflicts
        hold-comes detected z = record { store = fill_each n first_bank signature (seats n (seats_in q.entries)) store; is = refl; mirrors = hold_mirror detected z }

        hold_is : (obtained : List FullCertificate) (detected : List ℕ) → Mirrored obtained detected
            → Comes (hold_or_blame c (at (with_certificates obtained detected) store)) (upon_fulls_conflict checks n seat (add_obtained q (with_certificates obtained detected)))
        hold_is [] detected z = hold-comes detected z
        hold_is (f ∷ rest) detected z = blame-comes f rest detected z

      -- ---- a certificate heard, or the unit's own

      -- the rule of line 33 doesn't depend on full certificates
      notices-obtained : (x : Reaction) → upon_notices_conflict checks n seat (add_obtained q x) ≡ add_obtained q (upon_notices_conflict checks n seat x)
      unfolding upon_notices_conflict sending act own_full
      notices-obtained x = go (x.machine.confirmed && not x.machine.sent && is_some (conflict value_of_notice x.machine.noticed))
        where
          go : (b : Bool) → cond b (sending checks n seat (add_obtained q x)) (add_obtained q x) ≡ add_obtained q (cond b (sending checks n seat x) x)
          go true = refl
          go false = refl

      pub certificate_is : (x : Reaction) (store : List ℕ) → store_length n ≤ length store → Mirrors checks n store (add_noticed q.value x).machine
          → Comes (hear_certificate c (at x store)) (upon_fulls_conflict checks n seat (upon_notices_conflict checks n seat (obtain checks n seat q x)))
      unfolding hear_certificate obtain upon_notice_delivered
      certificate_is x store room z =
          let heard = add_noticed q.value x in
          let replied = upon_notices_conflict checks n seat heard in
          let a = hold_is replied store room replied.machine.obtained replied.machine.detected (reply-mirrors heard store z) in
          let before : hear_certificate c (at x store) ≡ hold_or_blame c (at replied store) = ap (λ (s : State). hold_or_blame c (reply s)) (hear_is q.value x store) ∙ ap (hold_or_blame c) (reply_is heard store z) in
          let machine : upon_fulls_conflict checks n seat (upon_notices_conflict checks n seat (add_obtained q heard)) ≡ upon_fulls_conflict checks n seat (add_obtained q replied) = ap (upon_fulls_conflict checks n seat) (notices-obtained heard) in
          subst (Comes (hear_certificate c (at x store))) (sym machine) (record { store = a.store; is = before ∙ a.is; mirrors = a.mirrors })

    -- ---- confirm: line 25

    module _ (some-seats : 1 ≤ n) (x : Reaction) (store : List ℕ) (room : store_length n ≤ length store) (keeping : Keeping checks n store x.machine.early) (collecting : Collecting n x.machine.value x.machine.collected) (obtaining : Obtaining n x.machine.obtained x.machine.detected) (stored : Stored n store x.machine.collected x.machine.obtained) where
      abbrev complete : Bool
      complete = leb (k n) (length x.machine.collected)

      taken-size : (b : Bool) → complete ≡ b → eqb (size (seats_in (take (k n) x.machine.collected))) (k n) ≡ b
      taken-size true e = eq-eqb (size (seats_in (take (k n) x.machine.collected))) (k n) (collecting.counted ∙ length-take-le (k n) x.machine.collected (leb-true (k n) (length x.machine.collected) e))
      taken-size false e =
          let few = leb-false (k n) (length x.machine.collected) e in
          let all = ap length (take_all (k n) x.machine.collected (omega arith)) in
          let counted = collecting.counted in
          ne_eqb (size (seats_in (take (k n) x.machine.collected))) (k n) (λ h. omega arith)

      complete_is : is_complete (record_of n seat round x.machine) ≡ (not x.machine.confirmed && complete)
      unfolding is_complete record_of
      complete_is = ap (λ (b : Bool). not x.machine.confirmed && b) (taken-size complete refl)

      -- the unit's own certificate
      own-quorum : complete ≡ true → Quorum n (own_full checks n seat x.machine)
      unfolding own_full
      own-quorum e = record {
        below = taken-below n x.machine.collected collecting.below;
        enough = collecting.counted ∙ length-take-le (k n) x.machine.collected (leb-true (k n) (length x.machine.collected) e);
        sized = λ s i. signature_each (λ t g. length g ≡ signature_length) (take (k n) x.machine.collected) s (each_take (λ (e : Entry). length e.signature ≡ signature_length) (k n) x.machine.collected collecting.sized) i;
      }

      confirmed_is : complete ≡ true → Comes (hear_own (confirm (at x store))) (upon_fulls_conflict checks n seat (upon_notices_conflict checks n seat (confirming checks n seat x)))
      unfolding hear_own own_certificate confirm record_of confirming own_full spoken act
      confirmed_is e =
          let m = x.machine in
          let own = own_full checks n seat m in
          let after = act (ConfirmAndNotice (own_value m.value)) (set_confirmed x) in
          let a = certificate_is some-seats own (slot n collected_bank store) stored.own (own-quorum e) after store room
          (record {
            keeping = keeping;
            collecting = collecting;
            obtaining = obtaining;
            stored = stored;
            resting = record { complete = sym e; heard = λ h. Memᴰ.append_right m.noticed (Memᴰ.head refl) };
          }) in
          let is : hear_own (confirm (at x store)) ≡ hear_own (at after store) = ap hear_own (write_is (ConfirmAndNotice (own_value m.value)) (set_confirmed x) store) in
          record { store = a.store; is = is ∙ a.is; mirrors = a.mirrors }

      pub confirm_is : (x.machine.confirmed ≡ true → (complete ≡ true) × Memᴰ (own_value x.machine.value) x.machine.noticed) → Comes (confirm_if_complete (at x store)) (upon_rules checks n seat x)
      unfolding confirm_if_complete upon_rules upon_quorum
      confirm_is rested = go x.machine.confirmed refl complete refl
        where
          quiet : (not x.machine.confirmed && complete) ≡ false → x.machine.confirmed ≡ complete → Comes (confirm_if_complete (at x store)) (upon_rules checks n seat x)
          quiet e h =
              let z : Mirrors checks n store x.machine = record {
                keeping = keeping;
                collecting = collecting;
                obtaining = obtaining;
                stored = stored;
                resting = record { complete = h; heard = λ p. (rested p).1 };
              } in
              let now = upon_notices_conflict checks n seat x in
              let rule : upon_rules checks n seat x ≡ now = ap (λ (b : Bool). upon_fulls_conflict checks n seat (upon_notices_conflict checks n seat (cond b (confirming checks n seat x) x))) e ∙ fulls-quiet checks n seat now (reply-mirrors x store z).obtaining.quiet in
              subst (Comes (confirm_if_complete (at x store))) (sym rule)
              (record {
                store = store;
                is = ap (λ (b : Bool). cond b (hear_own (confirm (at x store))) (reply (at x store))) (complete_is ∙ e) ∙ reply_is x store z;
                mirrors = reply-mirrors x store z;
              })

          go : (b : Bool) → x.machine.confirmed ≡ b → (d : Bool) → complete ≡ d → Comes (confirm_if_complete (at x store)) (upon_rules checks n seat x)
          go true p true q = quiet (rw p) (p ∙ sym q)
          go true p false q = absurd (true≢false (sym (rested p).0 ∙ q))
          go false p false q = quiet (rw (p, q)) (p ∙ sym q)
          go false p true q =
              let a = confirmed_is q in
              let now : (not x.machine.confirmed && complete) ≡ true = rw (p, q) in
              subst (Comes (confirm_if_complete (at x store))) (ap (λ (b : Bool). upon_fulls_conflict checks n seat (upon_notices_conflict checks n seat (cond b (confirming checks n seat x) x))) (sym now))
              (record {
                store = a.store;
                is = ap (λ (b : Bool). cond b (hear_own (confirm (at x store))) (reply (at x store))) (complete_is ∙ now) ∙ a.is;
                mirrors = a.mirrors;
              })
