-- Demand 3, the accountable half: "Where two honest units have confirmed different layouts, and the notice and full certificate
-- of each have reached every other honest unit in buffers of the stated lengths, each honest unit has written evidence that
-- names at least t0 + 1 seats and that every unit accepts."
-- Assumes nothing.
use Rattle.std.specs.Prelude.{◌≡◌, true, false, not, ◌&&◌, ◌⊎◌, ◌≢◌, ◌↔◌, ℕ, ◌≤◌, ◌<◌}
use Rattle.std.proofs.Math.Path.{refl, sym, ap, subst}
use Rattle.std.proofs.Common.{subst₂, ◌∙◌, true≢false, inl, inr, ⊎_elim}
use Rattle.std.proofs.lemmas.Bool.{false≢true, not-false}
use mathlib.Core.List.{List, ◌∷◌, ◌++◌, Memᴰ}
use native.Mathlib.Omega.{arith}
use Rattle.std.proofs.Math.ListN.{length}
use Rattle.quorum.specs.Quorum.{k, In, size, shared}
use Rattle.quorum.specs.QuorumLaws.{in_shared, size-within, size-empty, t0-below-third, k_of_n_share}
use Rattle.refusal.specs.Refusal.{unrefused}
use Rattle.protocol.specs.Layout.{value_length, store_length, out_length}
use Rattle.protocol.specs.Message.{Entry, Message, Submit, Notice, Full, Evidence, Garbled, render, read, round_of, entry_seats, seats_of, signed, WellFormed}
use Rattle.protocol.specs.Certificate.{Certificate, set_of, own_certificate, certificate_of}
use Rattle.protocol.specs.CertificateLaws.{in_set}
use Rattle.protocol.specs.MessageLaws.{read-render}
use Rattle.protocol.specs.Refusals.{Checks, is_for_step, is_full, rising}
use Rattle.protocol.specs.Step.{other_heard, owes_full}
use Rattle.protocol.specs.Calls.{Result, result_by, step, checked_by, evidence_check}
use Rattle.protocol.specs.declared.Record.{Record}
use Rattle.round.specs.Round.{Setting, IsHonest, Each, Relation, Boat, Called, result_of, written_over, Are, now_of, list_of, Writes, Confirms, Reached, WritesFirst, Accepted, Names}
use Rattle.round.specs.Demand3.{NamesEnough, Blames, ReachedOthers}
use Rattle.round.specs.Demand1.{is_notice}
use Rattle.reading.specs.ListsLaws.{and_false-either, each_nil, each_one}
use Rattle.reading.specs.ReadingLaws.{are_unique}
use Rattle.reading.specs.Messages.{all_messages}
use Rattle.reading.specs.MessagesLaws.{outcome_is, step_is}
use Rattle.claims.specs.Sound.{Any, CONFIRMED, SENT, LargeFirst, Heard, Held, Settled, Certifies, Entries, Sound, Said}
use Rattle.claims.specs.CertificatesLaws.{entries-laid, certifies_of}
use Rattle.claims.specs.PacksLaws.{pack-size, first_pack_lem, first_large}
use Rattle.claims.specs.Parts.{other-heard, first_enough, own-certifies}
use Rattle.claims.specs.Whole.{notice-heard}
use Rattle.claims.specs.UnrefusedLaws.{possible, Taken, full-taken}
use Rattle.claims.specs.NotRefused.{Table, message_not_refused}
use Rattle.claims.specs.Journey.{Worthy, At, any-worthy}
use Rattle.claims.specs.Opened.{start_of, opened-range, opened-fit, start-n, start-round}
use Rattle.claims.specs.Units.{end_of, trip, stop, end-n, end-seat, end-round, member_written, begun_at_end, written_flag, flag_written, writes-good, all_are, step_end}
use Rattle.claims.specs.Culprits.{heard-held, packs-accepted}

-- the only case of a message that is a FULL
full_cases : (P : Message → Type 0) (m : Message) → is_full m ≡ true → ((ρ sender : ℕ) (value : List ℕ) (es : List Entry) → P (Full ρ sender value es)) → P m
unfolding is_full
full_cases P (Submit ρ seat value signature) e f = absurd (false≢true e)
full_cases P (Notice ρ seat value) e f = absurd (false≢true e)
full_cases P (Full ρ sender value es) e f = f ρ sender value es
full_cases P (Evidence ρ form ps) e f = absurd (false≢true e)
full_cases P Garbled e f = absurd (false≢true e)

-- the first certificate is of this value, or seats are guilty
abbrev Met : List ℕ → Record → Type 0
Met value r = (r.first.value ≡ value) ⊎ (r.guilty ≢ 0)

-- so it is where a certificate of the value was held or compared, since two certificates share a seat
held_met : (checks : Checks) (W : Relation) (r : Record) (store : List ℕ) (c : Certificate) → Sound checks W r store → Certifies checks W r.n c → Held c.value c.seats r → Met c.value r
held_met checks W r store c z y held =
    let both = shared r.first.seats c.seats in
    ⊎_elim inl
    (λ compared. inr (λ innocent. omega (
      arith,
      k_of_n_share r.n r.first.seats c.seats z.range.some z.first.below y.below (first_enough checks W r store z held.0) y.enough,
      size-within r.guilty both (λ s i. let h = (in_shared s r.first.seats c.seats).0 i in compared s h.0 h.1),
      ap size innocent,
      size-empty,
    )))
    held.1

-- guilty seats, where this is so for two values
both_met : (a b : List ℕ) (r : Record) → a ≢ b → Met a r → Met b r → r.guilty ≢ 0
both_met a b r d ma mb g = ⊎_elim (λ p. ⊎_elim (λ q. d (sym p ∙ q)) (λ q. q g) mb) (λ p. p g) ma

-- a unit that confirmed, heard another value and owes no FULL has sent it
sent_of : (r : Record) → owes_full r ≡ false → r.confirmed ≡ true → other_heard r ≡ true → r.sent ≡ true
unfolding owes_full
sent_of r owes confirmed other =
    ⊎_elim (λ e. ⊎_elim (λ c. absurd (true≢false (sym confirmed ∙ c))) (λ s. not-false r.sent s) (and_false-either r.confirmed (not r.sent) e)) (λ e. absurd (true≢false (sym other ∙ e)))
    (and_false-either (r.confirmed && not r.sent) (other_heard r) owes)

module _ (S : Setting) where
  open S use {n, round, keys, checks}

  -- the seats of the check's mask are those that the evidence names
  mask_is : (evidence : List ℕ) → Accepted S evidence → (evidence_check checks n round keys evidence).mask ≡ set_of (entry_seats (read n evidence))
  unfolding evidence_check checked_by unrefused
  mask_is evidence a = rw a

  pub mask-names : (evidence : List ℕ) (seat : ℕ) → Accepted S evidence → In seat (evidence_check checks n round keys evidence).mask ↔ Names S evidence seat
  mask-names evidence seat a = rw (mask_is evidence a) (in_set seat (entry_seats (read n evidence)))

  -- ---- one unit

  module _ (u : Boat) (honest : IsHonest S u) where
    abbrev any : Each (Worthy S Any) (list_of S u)
    any = any-worthy S (list_of S u)

    abbrev end : Record
    end = end_of S u honest

    -- a message that reaches the unit, and in which there is no cause for a refusal
    module _ (m : Message) (formed : WellFormed n m) (for_step : is_for_step m ≡ true) (taken : Taken checks n round m) (h : Reached S u (render m)) where
      abbrev t : Called
      t = h.step.call

      abbrev out : List ℕ
      out = h.step.out

      abbrev at : At S Any (start_of S u honest) t end
      at = stop S u honest Any any t h.step.in_list

      size_is : t.unit.n ≡ n
      size_is = at.since.n ∙ start-n S u honest

      round_is : t.unit.round ≡ round
      round_is = at.since.round ∙ start-round S u honest

      reached-unrefused : (result_of S t).refusal ≡ 0
      unfolding step result_by
      reached-unrefused =
          ap (λ (x : Result). x.refusal) (outcome_is S t.given t.unit t.store)
          ∙ (step_is S t.given (render m) out t.unit t.store h.step.is_step).0
          ∙ message_not_refused checks keys t.unit t.store out m
          (record {
            possible = possible checks Any t.unit t.store at.sound at.settled;
            table = subst (λ i. Table i keys) (sym size_is) (opened-fit S u honest).table;
            store_room = subst (λ i. store_length i ≤ length t.store) (sym size_is) h.store_room;
            out_room = subst (λ i. out_length i ≤ length out) (sym size_is) h.out_room;
          })
          (subst (λ i. WellFormed i m) (sym size_is) formed) for_step (subst₂ (λ i ρ. Taken checks i ρ m) (sym size_is) (sym round_is) taken)

    -- a NOTICE that reached the unit is heard at the end
    reached-heard : (seat : ℕ) (value : List ℕ) → seat < n → length value ≡ value_length → Reached S u (render (Notice round seat value)) → Heard value end
    unfolding is_for_step round_of seats_of entry_seats signed rising
    reached-heard seat value inside sized h =
        let m = Notice round seat value in
        let formed : WellFormed n m = (let e = (opened-range S u honest).dated in omega arith, sized) in
        let taken : Taken checks n round m = record { in_round = refl; inside = each_one (λ s. s < n) seat inside; rises = refl; checked = each_nil (λ s. checks s.seat s.value s.signature ≡ true) } in
        step_end S u honest (render m) h.step (reached-unrefused m formed refl taken h) m (read-render n m formed) (Heard value) (λ r r' g. g.heard value)
        (λ s z room settled b. notice-heard checks Any s z room settled round seat value b)

    -- after a FULL that reached the unit, the first certificate is of its value, or seats are guilty
    reached_met : (sender : ℕ) (value : List ℕ) (es : List Entry) → sender < n → Entries checks Any n value es → Reached S u (render (Full round sender value es)) → Met value end
    unfolding is_for_step certificate_of
    reached_met sender value es inside entries h =
        let m = Full round sender value es in
        let formed : WellFormed n m = (let e = (opened-range S u honest).dated in omega arith, entries.sized, entries.many, entries-laid checks Any n value es entries) in
        let taken = full-taken checks Any n round sender value es inside entries in
        held_met checks Any end (now_of S u).store (certificate_of value es) (trip S u honest Any any).sound (subst (λ i. Certifies checks Any i (certificate_of value es)) (sym (end-n S u honest Any any)) (certifies_of checks Any n value es entries))
        (heard-held S u honest (render m) h.step (reached-unrefused m formed refl taken h) round sender value es (read-render n m formed))

    -- and so it is where the unit has confirmed the value
    confirmed_met : end.confirmed ≡ true → Met end.own.value end
    unfolding own_certificate
    confirmed_met e =
        let now = trip S u honest Any any in
        let store = (now_of S u).store in
        held_met checks Any end store (own_certificate end store) now.sound (own-certifies checks Any end store now.sound (now.sound.flags.full e)) (now.settled.holds e)

    -- ---- the unit's NOTICE and FULL

    abbrev Own : ℕ → ℕ → List ℕ → Type 0
    Own ρ seat value = (ρ ≡ round) × (seat ≡ u.seat) × (value ≡ end.own.value)

    own-said : (ρ seat : ℕ) (value : List ℕ) → Said end ρ seat value → Own ρ seat value
    own-said ρ seat value s =
        (s.of_round ∙ end-round S u honest Any any, s.of_seat ∙ end-seat S u honest Any any, s.of_value)

    confirms-end : (value : List ℕ) → Confirms S u value → (end.confirmed ≡ true) × (end.own.value ≡ value) × (length value ≡ value_length) × Writes S u (Notice round u.seat value)
    unfolding is_notice
    confirms-end value c =
        let m = Notice c.0 c.1 value in
        let s = writes-good S u honest Any any m c.2 in
        let own = own-said c.0 c.1 value s in (
          written_flag S u honest Any any CONFIRMED m refl c.2,
          sym own.2,
          s.sized,
          subst (λ ρ. Writes S u (Notice ρ u.seat value)) own.0 (subst (λ t. Writes S u (Notice c.0 t value)) own.1 c.2),
        )

    -- the unit has written a FULL of the value
    abbrev WroteFull : List ℕ → Type 0
    WroteFull value = (es : List Entry) × Entries checks Any n value es × Writes S u (Full round u.seat value es)

    sent-full : end.sent ≡ true → WroteFull end.own.value
    sent-full e =
        let f = flag_written S u honest Any any SENT e in
        full_cases (λ m. Writes S u m → WroteFull end.own.value) f.0 f.1
        (λ ρ sender value es w.
        let g = writes-good S u honest Any any (Full ρ sender value es) w in
        let own = own-said ρ sender value g.0 in
        subst WroteFull own.2 (
          es,
          subst (λ i. Entries checks Any i value es) (end-n S u honest Any any) g.1,
          subst₂ (λ x y. Writes S u (Full x y value es)) own.0 own.1 w,
        ))
        f.2

    -- ---- evidence that the unit wrote

    -- "The t0 + 1 seats are owed by the first pack a unit writes in a submit or a step" (document 02, item 3): it names k − t0 or more
    pub first_pack-names : (evidence : List ℕ) → WritesFirst S u evidence → NamesEnough S evidence
    unfolding k
    first_pack-names evidence w =
        let m = w.written.message in
        let kind = w.written.kind in
        let ms = w.before ++ m ∷ w.later in
        let is : ms ≡ all_messages S (list_of S u) = are_unique n (written_over S (list_of S u)) ms (all_messages S (list_of S u)) w.are (all_are S u honest) in
        let member : Memᴰ m ms = mathlib.Core.List.Memᴰ.append_right w.before (mathlib.Core.List.Memᴰ.head refl) in
        let accepted = packs-accepted S u honest evidence w.written in
        let mask : (evidence_check checks n round keys evidence).mask ≡ set_of (entry_seats m) =
        mask_is evidence accepted ∙ ap (λ x. set_of (entry_seats x)) (ap (read n) w.written.bytes ∙ read-render n m (w.are.0 m member)) in
        let large = first_large n w.before m w.later (subst (LargeFirst n) (sym is) (begun_at_end S u honest Any any).0) kind w.none in
        record {
          seats = (evidence_check checks n round keys evidence).mask;
          named = λ seat. mask-names evidence seat accepted;
          enough = rw mask (omega (arith, pack-size m kind, t0-below-third n (opened-range S u honest).some));
          accepted = accepted;
          answered = refl;
        }

    guilty-blames : end.guilty ≢ 0 → Blames S u
    guilty-blames guilty =
        let f = first_pack_lem (all_messages S (list_of S u)) (λ none. guilty ((begun_at_end S u honest Any any).1 none)) in
        let member : Memᴰ f.pack (all_messages S (list_of S u)) = subst (Memᴰ f.pack) (sym f.split) (mathlib.Core.List.Memᴰ.append_right f.before (mathlib.Core.List.Memᴰ.head refl)) in
        let first : WritesFirst S u (render f.pack) = record {
          written = record { message = f.pack; kind = f.is_one; bytes = refl; writes = member_written S u honest Any any f.pack member };
          before = f.before;
          later = f.later;
          are = subst (Are n (written_over S (list_of S u))) f.split (all_are S u honest);
          none = f.none;
        } in
        record { evidence = render f.pack; first = first; names = first_pack-names (render f.pack) first }

  -- ---- all units

  module _ {I : Type 0} (boat : I → Boat) (honest : (i : I) → IsHonest S (boat i)) where
    abbrev end_at : I → Record
    end_at i = end (boat i) (honest i)

    settled : (i : I) → Settled (end_at i)
    settled i = (trip S (boat i) (honest i) Any (any (boat i) (honest i))).settled

    confirmed : (i : I) (value : List ℕ) → Confirms S (boat i) value
        → ((end_at i).confirmed ≡ true) × ((end_at i).own.value ≡ value) × (length value ≡ value_length) × Writes S (boat i) (Notice round (boat i).seat value)
    confirmed i value c = confirms-end (boat i) (honest i) value c

    inside : (i : I) → (boat i).seat < n
    inside i = (opened-range S (boat i) (honest i)).seated

    -- of two units that confirmed different layouts, each has sent its FULL
    each_sent : (i j : I) (a b : List ℕ) → a ≢ b → Confirms S (boat i) a → Confirms S (boat j) b → ReachedOthers S boat j → (end_at i).sent ≡ true
    each_sent i j a b different ca cb reached =
        let x = confirmed i a ca in
        let y = confirmed j b cb in
        let other : i ≢ j = λ e. different (sym x.1 ∙ ap (λ l. (end_at l).own.value) e ∙ y.1) in
        let heard = reached-heard (boat i) (honest i) (boat j).seat b (inside j) y.2 ((reached i other).notice round (boat j).seat b y.3) in
        sent_of (end_at i) (settled i).owes x.0 (other-heard b (end_at i) heard (λ e. different (sym x.1 ∙ sym e)))

    -- at every unit the first certificate is of a layout whose FULL was sent, or seats are guilty
    each_met : (i : I) (a : List ℕ) → Confirms S (boat i) a → (end_at i).sent ≡ true → ReachedOthers S boat i → (l : I) → (Met a (end_at l) → ⊥) → ⊥
    each_met i a ca sent reached l never =
        let x = confirmed i a ca in
        let own : Met a (end_at i) = subst (λ v. Met v (end_at i)) x.1 (confirmed_met (boat i) (honest i) x.0) in
        let other : l ≢ i = λ q. never (subst (λ o. Met a (end_at o)) (sym q) own) in
        let f = subst (WroteFull (boat i) (honest i)) x.1 (sent-full (boat i) (honest i) sent) in
        never (reached_met (boat l) (honest l) (boat i).seat a f.0 (inside i) f.1 ((reached l other).full round (boat i).seat a f.0 f.2))

-- ---- the claim

pub blamed : (S : Setting) {I : Type 0} (boat : I → Boat) → ((i : I) → IsHonest S (boat i))
    → (i j : I) (a b : List ℕ) → a ≢ b → Confirms S (boat i) a → Confirms S (boat j) b
    → ReachedOthers S boat i → ReachedOthers S boat j → (l : I) → Blames S (boat l)
blamed S boat honest i j a b different ca cb ri rj l =
    let sent-a = each_sent S boat honest i j a b different ca cb rj in
    let sent-b = each_sent S boat honest j i b a (λ e. different (sym e)) cb ca ri in
    let met-a = each_met S boat honest i a ca sent-a ri l in
    let met-b = each_met S boat honest j b cb sent-b rj l in
    guilty-blames S (boat l) (honest l) (λ g. met-a (λ x. met-b (λ y. both_met a b (end_at S boat honest l) different x y g)))
