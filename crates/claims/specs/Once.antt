-- Demand 1 over a whole list: "in a round a unit on one unbroken record sends at most one submission, one notice and one full
-- certificate"; and at most t0 + 1 packs of evidence (document 02, item 3). And so "two units can[not] reply to each other without end". A
-- unit that loses power writes no more in the calls that count, and sends nothing else than what these wrote; and each SUBMIT, NOTICE and
-- FULL that it sends carries one layout, which it submitted in these calls.
-- Assumes nothing.
use Rattle.std.specs.Prelude.{◌≡◌, Bool, false, ◌⊎◌, ◌≢◌}
use Rattle.std.proofs.Math.Path.{refl, ap}
use Rattle.std.proofs.Common.{sym, subst, ◌∙◌}
use Rattle.std.proofs.Math.Bool.{true}
use mathlib.Core.List.Memᴰ
use mathlib.Core.List.{List, [], ◌∷◌, map, append-nil, Memᴰ}
use Rattle.std.proofs.Math.Logic.{inl, inr, ⊎_elim}
use Prim.Native.Nat.{ℕ, zero, suc, ◌+◌, ◌*◌, ◌≤◌, ◌<◌}
use native.Mathlib.Omega.{arith}
use Rattle.std.proofs.Math.Decide.{ℕ_discrete}
use Rattle.std.proofs.Math.ListN.{length, length-append}
use Rattle.std.proofs.lemmas.List.{length-map}
use Rattle.quorum.specs.Quorum.{t0, k, has, size}
use Rattle.refusal.specs.Refusal.{unrefused}
use Rattle.protocol.specs.Layout.{signature_length, submit_length, notice_length, full_entry_at, full_length, evidence_start, evidence_entry_length, evidence_entry_at, evidence_length, out_length, note_length}
use Rattle.protocol.specs.Entries.{form_seats}
use Rattle.protocol.specs.Message.{Pair, PackForm, ValuesEach, Message, Submit, Notice, Full, Evidence, Garbled, evidence_form, render, render_all, read, entry_seats, WellFormed}
use Rattle.protocol.specs.MessageLaws.{length-submit, length-notice, length-full, length-evidence, evidence-place}
use Rattle.protocol.specs.Record.{impossible}
use Rattle.protocol.specs.Refusals.{Checks, is_full, is_evidence}
use Rattle.protocol.specs.NoteClaim.{note-written}
use Rattle.protocol.specs.Step.{State, stepped}
use Rattle.protocol.specs.Calls.{opening, Result, result_by, start, write_note}
use Rattle.protocol.specs.declared.Record.{Record}
use Rattle.round.specs.Round.{Setting, IsHonest, Each, Relation, Call, BySubmit, ByStep, ByThinEntry, Boat, Called, result_of, written_in, StandsIn, written_over, Are, now_of, list_of, Sent, Writes, Submits}
use Rattle.round.specs.Demand1.{Kind, SUBMIT, NOTICE, FULL, EVIDENCE, is_of, is_submit, is_notice, worth, count, most, AtMost, Apart, SendsOne, Carries, SendsSubmitted, SendsOneLayout}
use Rattle.round.specs.Culprits.{pack_names}
use Rattle.reading.specs.ListsLaws.{worth_le_one, worth-true, true_of_worth, count_pos}
use Rattle.claims.specs.Sound.{Any, Mark, SUBMITTED, CONFIRMED, SENT, NAMED, sets, flag_of, pack_size, pack_sizes, Pairs, Said, Good}
use Rattle.claims.specs.CertificatesLaws.{set-size, entries-laid}
use Rattle.claims.specs.PacksLaws.{one_or_two, pack-names, NamesSome, size_member, packs_at_most}
use Rattle.claims.specs.Parts.{guilty-few, confirmed-submitted}
use Rattle.claims.specs.UnrefusedLaws.{possible}
use Rattle.claims.specs.Whole.{step-submits_none}
use Rattle.reading.specs.ReadingLaws.{are_unique}
use Rattle.reading.specs.Messages.{refusal_of, came_to, messages, all_messages}
use Rattle.reading.specs.MessagesLaws.{outcome_is, unrefused-unit, all_member, member_all}
use Rattle.claims.specs.Journey.{Worthy, Passed, any-worthy}
use Rattle.claims.specs.Opened.{start-n, start-sound, start-settled}
use Rattle.claims.specs.Power.{sends-written}
use Rattle.claims.specs.Units.{end_of, trip, stop, result-grows, written_are, written_member, member_written, marked_at_end, begun_at_end, flag_written, writes-good, end-n, all_are, by_messages}
use Rattle.claims.specs.Safe.{pack_cases, submits-end}

-- ---- messages by kind

-- number of messages, kind by kind
kinds : List Message → ℕ
kinds ms = count (is_of SUBMIT) ms + count (is_of NOTICE) ms + count (is_of FULL) ms + count (is_of EVIDENCE) ms

kinds_all : (n : ℕ) (ms : List Message) → Each (WellFormed n) ms → kinds ms ≡ length ms
unfolding kinds count worth is_submit is_notice is_full is_evidence
kinds_all n [] w = refl
kinds_all n (Submit ρ seat value signature ∷ ms) w = omega (arith, kinds_all n ms (λ m d. w m (Memᴰ.tail d)))
kinds_all n (Notice ρ seat value ∷ ms) w = omega (arith, kinds_all n ms (λ m d. w m (Memᴰ.tail d)))
kinds_all n (Full ρ sender value es ∷ ms) w = omega (arith, kinds_all n ms (λ m d. w m (Memᴰ.tail d)))
kinds_all n (Evidence ρ form ps ∷ ms) w = omega (arith, kinds_all n ms (λ m d. w m (Memᴰ.tail d)))
kinds_all n (Garbled ∷ ms) w = absurd (w Garbled (Memᴰ.head refl))

once_le : (c l : ℕ) → c ≤ 1 → c * l ≤ l
once_le zero l h = omega arith
once_le (suc zero) l h = omega arith
once_le (suc (suc c)) l h = absurd (omega arith)

-- messages that are all EVIDENCE, one at most: none, or a single one
evidence-alone : (ms : List Message) → length ms ≡ count (is_of EVIDENCE) ms → count (is_of EVIDENCE) ms ≤ 1 → (ms ≡ []) ⊎ ((m : Message) × (is_evidence m ≡ true) × (ms ≡ m ∷ []))
unfolding count
evidence-alone [] e l = inl refl
evidence-alone (m ∷ []) e l = inr (m, true_of_worth (is_evidence m) (omega arith), refl)
evidence-alone (m ∷ m' ∷ ms) e l = absurd (omega arith)

-- each seat of a pack stands there once
pairs-size : (checks : Checks) (W : Relation) (n ρ : ℕ) (ps : List Pair) → Pairs checks W n ps → pack_size (Evidence ρ ValuesEach ps) ≡ length ps
unfolding pack_size is_evidence entry_seats form_seats evidence_form
pairs-size checks W n ρ ps z = set-size (map (λ (p : Pair). p.seat) ps) z.rise ∙ length-map ps (λ (p : Pair). p.seat)

-- bytes of messages, kind by kind
module _ (checks : Checks) (W : Relation) (r : Record) where
  pack-bytes : (ρ : ℕ) (form : PackForm) (ps : List Pair) → Good checks W r (Evidence ρ form ps) → length (render (Evidence ρ form ps)) ≡ evidence_start + pack_size (Evidence ρ form ps) * evidence_entry_length
  unfolding evidence_length evidence_entry_at evidence_entry_length signature_length
  pack-bytes ρ form ps g = rw g.1 (omega (arith, length-evidence ρ ValuesEach ps tt g.2.laid, evidence-place (length ps), pairs-size checks W r.n ρ ps g.2))

  bytes_by_kind : (ms : List Message) → Each (Good checks W r) ms
      → length (render_all ms)
      ≡ count (is_of SUBMIT) ms * submit_length + count (is_of NOTICE) ms * notice_length + count (is_of FULL) ms * full_entry_at (k r.n) + count (is_of EVIDENCE) ms * evidence_start + pack_sizes ms * evidence_entry_length
  unfolding render_all count worth is_submit is_notice is_full is_evidence pack_sizes pack_size
  bytes_by_kind [] g = omega arith
  bytes_by_kind (Submit ρ seat value signature ∷ ms) g =
      let h = g (Submit ρ seat value signature) (Memᴰ.head refl) in
      let l = length-submit ρ seat value signature h.0.sized h.1.sized in
      omega (arith, length-append (render (Submit ρ seat value signature)) (render_all ms), bytes_by_kind ms (λ m d. g m (Memᴰ.tail d)))
  bytes_by_kind (Notice ρ seat value ∷ ms) g =
      let h = g (Notice ρ seat value) (Memᴰ.head refl) in
      let l = length-notice ρ seat value h.sized in
      omega (arith, length-append (render (Notice ρ seat value)) (render_all ms), bytes_by_kind ms (λ m d. g m (Memᴰ.tail d)))
  bytes_by_kind (Full ρ sender value es ∷ ms) g =
      let h = g (Full ρ sender value es) (Memᴰ.head refl) in
      let l : length (render (Full ρ sender value es)) ≡ full_entry_at (k r.n) =
      length-full ρ sender value es h.0.sized (entries-laid checks W r.n value es h.1) ∙ ap full_entry_at h.1.many in
      omega (arith, length-append (render (Full ρ sender value es)) (render_all ms), bytes_by_kind ms (λ m d. g m (Memᴰ.tail d)))
  bytes_by_kind (Evidence ρ form ps ∷ ms) g =
      let m = Evidence ρ form ps in
      let h = g m (Memᴰ.head refl) in
      omega (arith, length-append (render m) (render_all ms), pack-bytes ρ form ps h, bytes_by_kind ms (λ x d. g x (Memᴰ.tail d)))
  bytes_by_kind (Garbled ∷ ms) g = absurd (g Garbled (Memᴰ.head refl))

  -- one of each kind and further packs, which name k seats at most in all
  bytes-few : (ms : List Message) (more : ℕ) → Each (Good checks W r) ms → count is_submit ms ≤ 1 → count is_notice ms ≤ 1 → count is_full ms ≤ 1 → count is_evidence ms ≤ more + 1 → pack_sizes ms ≤ k r.n
      → length (render_all ms) ≤ out_length r.n + evidence_start * more
  unfolding out_length full_length evidence_length evidence_entry_at evidence_entry_length signature_length
  bytes-few ms more g submits notices fulls packs seats =
      omega (
        arith,
        bytes_by_kind ms g,
        once_le (count is_submit ms) submit_length submits,
        once_le (count is_notice ms) notice_length notices,
        once_le (count is_full ms) (full_entry_at (k r.n)) fulls,
      )

-- ---- an honest unit's list

module _ (S : Setting) (u : Boat) (honest : IsHonest S u) where
  open S use {n, round, keys, checks}

  abbrev ts : List Called
  ts = list_of S u

  abbrev any : Each (Worthy S Any) ts
  any = any-worthy S ts

  -- the bytes written over the whole list are messages one after another
  pub written-messages : (ms : List Message) × Are n (written_over S ts) ms
  written-messages = (all_messages S ts, all_are S u honest)

  abbrev end : Record
  end = end_of S u honest

  all_good : Each (Good checks Any end) (all_messages S ts)
  all_good m d = writes-good S u honest Any any m (member_written S u honest Any any m d)

  -- each pack that the list writes names a seat or more
  packs_name : Each NamesSome (all_messages S ts)
  packs_name m d is =
      pack_cases checks Any end (λ x. 1 ≤ pack_size x) m is (all_good m d) (λ ps z. omega (arith, pairs-size checks Any end.n end.round ps z, z.some))

  -- all packs together name the guilty seats
  named_at_end : pack_sizes (all_messages S ts) ≤ k end.n
  named_at_end =
      let now = trip S u honest Any any in
      omega (arith, now.counts.named, guilty-few checks Any end (now_of S u).store now.sound)

  packs_at_end : count is_evidence (all_messages S ts) ≤ t0 n + 1
  packs_at_end = go (ℕ_discrete (count is_evidence (all_messages S ts)) 0)
    where
      go : Dec (count is_evidence (all_messages S ts) ≡ 0) → count is_evidence (all_messages S ts) ≤ t0 n + 1
      go (yes e) = omega arith
      go (no d) =
          let l = packs_at_most n (all_messages S ts) (begun_at_end S u honest Any any).0 packs_name d in
          omega (arith, named_at_end, ap k (end-n S u honest Any any))

  at_most_at_end : (κ : Kind) → count (is_of κ) (all_messages S ts) ≤ most n κ
  unfolding most
  at_most_at_end SUBMIT = omega (arith, marked_at_end S u honest Any any SUBMITTED, worth_le_one end.own.submitted)
  at_most_at_end NOTICE = omega (arith, marked_at_end S u honest Any any CONFIRMED, worth_le_one end.confirmed)
  at_most_at_end FULL = omega (arith, marked_at_end S u honest Any any SENT, worth_le_one end.sent)
  at_most_at_end EVIDENCE = packs_at_end

  -- the claim: at most one SUBMIT, NOTICE and FULL, and t0 + 1 packs
  pub at_most : AtMost S u
  at_most ms a κ = by_messages S u honest (λ xs. count (is_of κ) xs ≤ most n κ) (at_most_at_end κ) ms a

  -- in all t0 + 4 messages, however long the list: no two units reply to each other without end
  pub at_most_in_all : (ms : List Message) → Are n (written_over S ts) ms → length ms ≤ t0 n + 4
  unfolding kinds most
  at_most_in_all ms a =
      let most = at_most ms a in
      omega (arith, kinds_all n ms a.0, most SUBMIT, most NOTICE, most FULL, most EVIDENCE)

  -- and in bytes, what fits the stated out, and a head for each further pack
  pub written_in_all : length (written_over S ts) ≤ out_length n + evidence_start * t0 n
  unfolding most
  written_in_all =
      rw (all_are S u honest).1
      (subst (λ i. length (render_all (all_messages S ts)) ≤ out_length i + evidence_start * t0 n) (end-n S u honest Any any)
      (bytes-few checks Any end (all_messages S ts) (t0 n) all_good (at_most_at_end SUBMIT) (at_most_at_end NOTICE) (at_most_at_end FULL) packs_at_end named_at_end))

  -- no seat stands in two packs
  named-once : (seat : ℕ) → count (pack_names seat) (all_messages S ts) ≤ 1
  named-once seat = omega (arith, marked_at_end S u honest Any any (NAMED seat), worth_le_one (has seat end.guilty))

  -- The claim for what is sent: the same message again, or none of its kind but a pack that names other seats. It was written by a call
  -- that counts (`Power: sends-written`).
  pub sends-one : SendsOne u
  unfolding most
  sends-one κ m m' is is' d d' =
      let member : (x : Message) → Sent u x → Memᴰ x (all_messages S ts) = λ x e. written_member S u honest Any any x (sends-written S u honest x e) in
      ⊎_elim inl (λ two. inr (go κ is is' two)) (one_or_two (all_messages S ts) m m' (member m d) (member m' d'))
    where
      go : (κ : Kind) → is_of κ m ≡ true → is_of κ m' ≡ true → ((test : Message → Bool) → test m ≡ true → test m' ≡ true → 2 ≤ count test (all_messages S ts)) → (κ ≡ EVIDENCE) × Apart m m'
      go SUBMIT is is' two = absurd (omega (arith, two is_submit is is', at_most_at_end SUBMIT))
      go NOTICE is is' two = absurd (omega (arith, two is_notice is is', at_most_at_end NOTICE))
      go FULL is is' two = absurd (omega (arith, two is_full is is', at_most_at_end FULL))
      go EVIDENCE is is' two = (refl, λ seat e e'. omega (arith, two (pack_names seat) (pack-names seat m is e) (pack-names seat m' is' e'), named-once seat))

  -- the record that the opening gave isn't impossible
  pub opened-possible : impossible (opening n u.seat round keys).unit ≡ false
  opened-possible =
      possible checks Any (opening n u.seat round keys).unit u.store (start-sound S u honest Any u.store) (start-settled S u honest)

  -- nor is the one that the unit has, after calls and power cuts alike
  pub now-possible : impossible (end_of S u honest) ≡ false
  now-possible =
      let now = trip S u honest Any any in
      possible checks Any (end_of S u honest) (now_of S u).store now.sound now.settled

  -- and so it can always keep a note
  pub can_always_keep : (out : List ℕ) → note_length ≤ length out → (write_note (now_of S u).unit out).refusal ≡ 0
  can_always_keep out room = ap (λ w. w.refusal) (note-written (now_of S u).unit out now-possible room)

  -- ---- the one layout that it sends

  -- a call that writes a SUBMIT is a submit that isn't refused
  module _ (t : Called) (d : Memᴰ t ts) (m : Message) (e : Memᴰ m (messages S t)) (is : is_submit m ≡ true) where
    writer_unrefused : refusal_of S t.given t.unit t.store ≡ 0
    unfolding unrefused
    writer_unrefused = go (refusal_of S t.given t.unit t.store) e
      where
        go : (q : ℕ) → Memᴰ m (unrefused q (came_to t.given t.unit t.store).written []) → q ≡ 0
        go zero f = refl
        go (suc q) f = absurd (Memᴰ.not-nil f)

    writer_sets : (result_of S t).unit.own.submitted ≢ t.unit.own.submitted
    writer_sets same =
        let c = (stop S u honest Any any t d).after.counts.marked SUBMITTED in
        absurd (omega (arith, c, ap worth same, count_pos is_submit (messages S t) m e is))

    stepped-sets_none : (bytes : List ℕ) → came_to t.given t.unit t.store ≡ stepped (read t.unit.n bytes) (start t.unit t.store) → ⊥
    stepped-sets_none bytes came =
        writer_sets (ap (λ (r : Record). r.own.submitted) (unrefused-unit S t writer_unrefused ∙ ap (λ (s : State). s.unit) came) ∙ step-submits_none (read t.unit.n bytes) (start t.unit t.store))

    writer_submits : (layout : List ℕ) × Submits S u layout
    unfolding came_to result_by
    writer_submits = go t.given refl
      where
        go : (c : Call) → t.given ≡ c → (layout : List ℕ) × Submits S u layout
        go (BySubmit layout signature out) q =
            (layout, record { call = t; in_list = d; signature = signature; out = out; carries = q; unrefused = ap (λ (x : Result). x.refusal) (outcome_is S t.given t.unit t.store) ∙ writer_unrefused })
        go (ByStep bytes out) q = absurd (stepped-sets_none bytes (ap (λ (c : Call). came_to c t.unit t.store) q))
        go (ByThinEntry bytes out) q = absurd (stepped-sets_none bytes (ap (λ (c : Call). came_to c t.unit t.store) q))

  -- the value of a unit that has submitted is a layout that it submitted
  own-submitted : (end_of S u honest).own.submitted ≡ true → Submits S u (end_of S u honest).own.value
  own-submitted said =
      let w = flag_written S u honest Any any SUBMITTED said in
      let h = member_all S ts w.0 (written_member S u honest Any any w.0 w.2) in
      let s = writer_submits h.0 h.1 w.0 h.2 w.1 in
      subst (Submits S u) (sym (submits-end S u honest s.0 s.1)) s.1

  said-submitted : (ρ seat : ℕ) (value layout : List ℕ) → Said (end_of S u honest) ρ seat value → value ≡ layout → Submits S u layout
  said-submitted ρ seat value layout said e = subst (Submits S u) (sym said.of_value ∙ e) (own-submitted said.submitted)

  -- what it writes carries a layout that it submitted
  pub written_was_submitted : (m : Message) (layout : List ℕ) → Carries m layout → Writes S u m → Submits S u layout
  written_was_submitted m layout carries w = go m carries (writes-good S u honest Any any m w)
    where
      go : (x : Message) → Carries x layout → Good checks Any (end_of S u honest) x → Submits S u layout
      go (Submit ρ seat value signature) c g = said-submitted ρ seat value layout g.0 c
      go (Notice ρ seat value) c g = said-submitted ρ seat value layout g c
      go (Full ρ sender value entries) c g = said-submitted ρ sender value layout g.0 c
      go (Evidence ρ form entries) c g = absurd c
      go Garbled c g = absurd c

  -- and so does what it sends
  pub sent_was_submitted : SendsSubmitted S u
  sent_was_submitted m layout carries d = written_was_submitted m layout carries (sends-written S u honest m d)

  -- it has submitted one layout
  pub one-layout-submitted : (layout layout' : List ℕ) → Submits S u layout → Submits S u layout' → layout ≡ layout'
  one-layout-submitted layout layout' s s' = sym (submits-end S u honest layout s) ∙ submits-end S u honest layout' s'

  -- and sends one
  pub one-layout-sent : SendsOneLayout u
  one-layout-sent m m' layout layout' carries carries' d d' =
      one-layout-submitted layout layout' (sent_was_submitted m layout carries d) (sent_was_submitted m' layout' carries' d')

  -- ---- at each call

  module _ (t : Called) (d : Memᴰ t ts) where
    abbrev here : Passed S Any t.unit t.store (result_of S t).unit (result_of S t).store (messages S t)
    here = (stop S u honest Any any t d).after

    -- no record that comes out of a call is impossible
    pub none_impossible : impossible (result_of S t).unit ≡ false
    none_impossible = possible checks Any (result_of S t).unit (result_of S t).store here.sound here.settled

    marked-once : (μ : Mark) → count (sets μ) (messages S t) ≤ 1
    marked-once μ = omega (arith, here.counts.marked μ, worth_le_one (flag_of μ (result_of S t).unit))

    -- the bytes written fit the stated out
    pub written-fits : length (written_in S t) ≤ out_length n
    written-fits =
        let ms = messages S t in
        let r = (result_of S t).unit in
        let few = guilty-few checks Any r (result_of S t).store here.sound in
        let fits = bytes-few checks Any r ms 0 here.good (marked-once SUBMITTED) (marked-once CONFIRMED) (marked-once SENT) here.packs (omega (arith, here.counts.named)) in
        rw (written_are S u honest Any any t d).1 (subst (λ i. length (render_all ms) ≤ out_length i) ((result-grows S u honest Any any t d).n ∙ start-n S u honest) (omega arith))

    none_of : (μ : Mark) → flag_of μ t.unit ≡ true → count (sets μ) (messages S t) ≡ 0
    none_of μ e = omega (arith, here.counts.marked μ, worth-true (flag_of μ t.unit) e, worth_le_one (flag_of μ (result_of S t).unit))

    -- "EVIDENCE is written for those newly found, if any" (document 02, item 3): a call that writes a pack makes more seats guilty, and so one
    -- that adds none writes no pack
    pub pack-adds : (m : Message) → is_evidence m ≡ true → StandsIn n m (written_in S t) → size t.unit.guilty < size (result_of S t).unit.guilty
    pack-adds m is s =
        let member = subst (Memᴰ m) (are_unique n (written_in S t) s.0 (messages S t) s.1 (written_are S u honest Any any t d)) s.2 in
        let some = packs_name m (all_member S ts t m d member) is in
        omega (arith, here.counts.named, size_member (messages S t) m member)

    -- once FULL is sent, a call writes nothing, or one EVIDENCE, and then more seats are guilty than before
    pub quiet-once-sent : t.unit.sent ≡ true
        → (written_in S t ≡ []) ⊎ ((m : Message) × (is_evidence m ≡ true) × (size t.unit.guilty < size (result_of S t).unit.guilty) × (written_in S t ≡ render m))
    unfolding kinds render_all
    quiet-once-sent sent =
        let z = (stop S u honest Any any t d).sound in
        let confirmed = z.flags.confirmed sent in
        let submitted = confirmed-submitted checks Any t.unit t.store z confirmed in
        let ms = messages S t in
        let are = written_are S u honest Any any t d in
        let alone = evidence-alone ms (omega (arith, kinds_all n ms are.0, none_of SUBMITTED submitted, none_of CONFIRMED confirmed, none_of SENT sent)) here.packs in
        ⊎_elim
        (λ e. inl (are.1 ∙ ap render_all e))
        (λ h. inr (h.0, h.1, pack-adds h.0 h.1 (ms, are, rw h.2 (Memᴰ.head refl)), are.1 ∙ ap render_all h.2 ∙ append-nil (render h.0)))
        alone

    -- once FULL is sent, a call that makes no further seat guilty writes nothing
    pub nothing-more : t.unit.sent ≡ true → (result_of S t).unit.guilty ≡ t.unit.guilty → written_in S t ≡ []
    nothing-more sent same = ⊎_elim (λ e. e) (λ h. absurd (omega (arith, h.2, ap size same))) (quiet-once-sent sent)
