-- Demand 3, the safe half: "If no signature delivered for an honest seat over a layout that it didn't submit checks for that
-- seat over that layout, then no honest seat stands in any evidence written, or accepted from delivered signatures."
-- Assumes nothing.
use Rattle.std.specs.Prelude.{◌≡◌, true, ◌⊎◌, ◌≢◌, ℕ, zero, suc}
use Rattle.std.proofs.Math.Path.{refl, sym, subst}
use Rattle.std.proofs.Common.{ap, ◌∙◌, true≢false, inr, arith, le-ltb, eq-eqb}
use Rattle.std.proofs.Math.Bool.{false}
use Rattle.std.proofs.lemmas.Bool.{false≢true, not-false}
use mathlib.Core.List.Memᴰ
use mathlib.Core.List.{List, [], ◌∷◌, map, append-nil, Memᴰ}
use Rattle.std.proofs.Math.Logic.{inl}
use Rattle.refusal.specs.Refusal.{unrefused}
use Rattle.protocol.specs.Values.{is_lower}
use Rattle.protocol.specs.Entries.{form_seats}
use Rattle.protocol.specs.Message.{Pair, PackForm, ValuesEach, Message, Submit, Notice, Full, Evidence, Garbled, evidence_form, render, render_all, read, signed, entry_seats, WellFormed}
use Rattle.protocol.specs.MessageLaws.{read-render}
use Rattle.protocol.specs.Certificate.{certificate_in, conflict_of}
use Rattle.protocol.specs.Joining.{joined_pairs, joined_of}
use Rattle.protocol.specs.ConditionsLaws.{every_each}
use Rattle.protocol.specs.Refusals.{Checks, is_full, is_evidence, lower_first, not_lower_first}
use Rattle.protocol.specs.Calls.{making_by, making, made, joining, checked_by, evidence_check}
use Rattle.protocol.specs.declared.Record.{Record}
use Rattle.round.specs.Round.{Setting, IsHonest, Each, Relation, EachSigned, Call, BySubmit, ByStep, ByThinEntry, Work, Make, Join, InHand, Boat, IsStep, Called, result_of, StandsIn, list_of, Submits, WritesEvidence, worked, handled, making_of, MakesEvidence, Names, AcceptedFrom, Delivered}
use Rattle.round.specs.Demand3.{Takes, NoneForged, NoneBlamed}
use Rattle.reading.specs.ListsLaws.{each_nil, each_one}
use Rattle.claims.specs.Sound.{Any, Certifies, Pairs, Good}
use Rattle.claims.specs.CertificatesLaws.{certifies_of, conflict_elim}
use Rattle.reading.specs.Reading.{Sized}
use Rattle.reading.specs.ReadingLaws.{read-sized, are_unique}
use Rattle.claims.specs.UnrefusedLaws.{Taken, signed-pairs, entries-taken}
use Rattle.claims.specs.NotRefused.{Outside, evidence_not_refused, making_not_refused, joining_not_refused}
use Rattle.claims.specs.JoinedLaws.{pack_elim, joined-pairs}
use Rattle.reading.specs.Messages.{refusal_of, came_to}
use Rattle.reading.specs.MessagesLaws.{counted-written, unrefused-result}
use Rattle.claims.specs.Journey.{WorthyGiven, Worthy, At, submit-value, any-worthy}
use Rattle.claims.specs.Opened.{start_of, start-n, start-seat}
use Rattle.claims.specs.Units.{end_of, stop, writes-good, pairs-formed}

-- a value isn't lower than itself
lower_self : (v : List ℕ) → is_lower v v ≡ false
unfolding is_lower
lower_self [] = refl
lower_self (x ∷ v) = rw (le-ltb x x (omega arith), eq-eqb x x refl) (lower_self v)

lower_differs : (lower higher : List ℕ) → is_lower lower higher ≡ true → lower ≢ higher
lower_differs lower higher l e = true≢false (sym l ∙ subst (λ v. is_lower v higher ≡ false) (sym e) (lower_self higher))

-- the only case of a message that is an EVIDENCE
pub evidence_cases : (P : Message → Type 0) (m : Message) → is_evidence m ≡ true → ((ρ : ℕ) (form : PackForm) (ps : List Pair) → P (Evidence ρ form ps)) → P m
unfolding is_evidence
evidence_cases P (Submit ρ seat value signature) e f = absurd (false≢true e)
evidence_cases P (Notice ρ seat value) e f = absurd (false≢true e)
evidence_cases P (Full ρ sender value es) e f = absurd (false≢true e)
evidence_cases P (Evidence ρ form ps) e f = f ρ form ps
evidence_cases P Garbled e f = absurd (false≢true e)

-- and of one that a unit wrote
pub pack_cases : (checks : Checks) (W : Relation) (r : Record) (P : Message → Type 0) (m : Message) → is_evidence m ≡ true → Good checks W r m
    → ((ps : List Pair) → Pairs checks W r.n ps → P (Evidence r.round ValuesEach ps)) → P m
pack_cases checks W r P m e g f =
    evidence_cases (λ x. Good checks W r x → P x) m e (λ ρ form ps h. rw (h.0, h.1) (f ps h.2)) g

-- the certificate of a FULL that a making of evidence takes
pub certifies_in : (checks : Checks) (R : Relation) (n round : ℕ) (m : Message) → is_full m ≡ true → Taken checks n round m → Sized n m → EachSigned R m → Certifies checks R n (certificate_in m)
unfolding is_full certificate_in
certifies_in checks R n round (Submit ρ seat value signature) e t l w = absurd (false≢true e)
certifies_in checks R n round (Notice ρ seat value) e t l w = absurd (false≢true e)
certifies_in checks R n round (Full ρ sender value es) e t l w = certifies_of checks R n value es (entries-taken checks R n round ρ sender value es t l w)
certifies_in checks R n round (Evidence ρ form ps) e t l w = absurd (false≢true e)
certifies_in checks R n round Garbled e t l w = absurd (false≢true e)

module _ (S : Setting) where
  open S use {n, round, keys, checks}

  -- ---- bytes that a making or a joining of evidence writes

  -- the message that it writes
  abbrev pub evidence_from : Work → List ℕ → List ℕ → Message
  evidence_from Make a b = conflict_of n round (certificate_in (read n a)) (certificate_in (read n b))
  evidence_from Join a b = joined_of n round (read n a) (read n b)

  worked-writes : (w : Work) (a b out : List ℕ) → (worked S w a b out).written ≡ unrefused (worked S w a b out).refusal (render (evidence_from w a b)) []
  unfolding making joining making_by
  worked-writes Make a b out = refl
  worked-writes Join a b out = refl

  pub making-bytes : (h : InHand) → making_of S h ≡ unrefused (handled S h).refusal (render (evidence_from h.work h.a h.b)) []
  unfolding made
  making-bytes h = counted-written (handled S h).written h.out ∙ worked-writes h.work h.a h.b h.out

  -- where nothing is refused it is a pack, whose signatures the call was given
  pub evidence-made : (R : Relation) (w : Work) (a b out : List ℕ) → (worked S w a b out).refusal ≡ 0 → EachSigned R (read n a) → EachSigned R (read n b)
      → (P : Message → Type 0) → (Outside n round keys → (ps : List Pair) → Pairs checks R n ps → P (Evidence round ValuesEach ps)) → P (evidence_from w a b)
  unfolding joined_of
  evidence-made R Make a b out e r s P f =
      let t = (making_not_refused checks n round keys a b out).0 e in
      let first = certifies_in checks R n round (read n a) t.first_full t.first (read-sized n a) r in
      let second = certifies_in checks R n round (read n b) t.second_full t.second (read-sized n b) s in
      conflict_elim checks R n (certificate_in (read n a)) (certificate_in (read n b)) first second P round t.conflict t.outside.some (λ ps z names enough. f t.outside ps z)
  evidence-made R Join a b out e r s P f =
      let t = (joining_not_refused checks n round keys a b out).0 e in
      pack_elim checks R n round a t.first r (λ x. P (joined_of n round x (read n b)))
      (λ ps y.
      pack_elim checks R n round b t.second s (λ x. P (joined_of n round (Evidence round ValuesEach ps) x))
      (λ qs z. f t.outside (joined_pairs n (Evidence round ValuesEach ps) (Evidence round ValuesEach qs)) (joined-pairs checks R n round round ps qs y z)))

  -- ---- the one layout of an honest unit

  module _ (u : Boat) (honest : IsHonest S u) where
    pub submits-end : (value : List ℕ) → Submits S u value → (end_of S u honest).own.value ≡ value
    submits-end value s =
        let t = s.call in
        let given = BySubmit value s.signature s.out in
        let at = stop S u honest Any (any-worthy S (list_of S u)) t s.in_list in
        let l = unrefused-result S t s.unrefused in
        let zero : refusal_of S given t.unit t.store ≡ 0 = subst (λ c. refusal_of S c t.unit t.store ≡ 0) s.carries l.0 in
        let came : (result_of S t).unit ≡ (came_to given t.unit t.store).unit = subst (λ c. (result_of S t).unit ≡ (came_to c t.unit t.store).unit) s.carries l.1 in
        let v = submit-value S Any value s.signature s.out t.unit t.store at.sound zero tt in
        (at.before.said (ap (λ (r : Record). r.own.submitted) came ∙ v.0)).1 ∙ ap (λ (r : Record). r.own.value) came ∙ v.1

  module _ {I : Type 0} (boat : I → Boat) (honest : (i : I) → IsHonest S (boat i)) (R : Relation) (takes : Takes S boat R) (none : NoneForged S boat R) where
    -- ---- signatures in a unit's store

    -- origin of a signature in a unit's store: delivered, or the unit's own over a layout that it submitted
    abbrev Backed : I → Relation
    Backed j seat value signature = R seat value signature ⊎ ((seat ≡ (boat j).seat) × Submits S (boat j) value)

    module _ (j : I) (t : Called) (d : Memᴰ t (list_of S (boat j))) where
      abbrev at : At S Any (start_of S (boat j) (honest j)) t (end_of S (boat j) (honest j))
      at = stop S (boat j) (honest j) Any (any-worthy S (list_of S (boat j))) t d

      stepped-backed : (bytes out : List ℕ) → IsStep t.given bytes out → (result_of S t).refusal ≡ 0 → EachSigned (Backed j) (read t.unit.n bytes)
      stepped-backed bytes out e q =
          rw (at.since.n ∙ start-n S (boat j) (honest j)) (λ s m. inl (takes.steps j bytes (record { call = t; in_list = d; out = out; is_step = e }) q s m))

      given-backed : (c : Call) → t.given ≡ c → (result_of S t).refusal ≡ 0 → WorthyGiven S (Backed j) c t.unit
      given-backed (BySubmit value signature out) e q = inr (at.since.seat ∙ start-seat S (boat j) (honest j), record { call = t; in_list = d; signature = signature; out = out; carries = e; unrefused = q })
      given-backed (ByStep bytes out) e q = stepped-backed bytes out (inl e) q
      given-backed (ByThinEntry bytes out) e q = stepped-backed bytes out (inr e) q

    backed : (j : I) → Each (Worthy S (Backed j)) (list_of S (boat j))
    backed j t d q = given-backed j t d t.given refl q

    -- ---- an honest seat

    -- the honest unit has submitted the layout of each signature of its seat that checks and is delivered or in its store
    submitted_of : (i : I) (value signature : List ℕ) → checks (boat i).seat value signature ≡ true → Backed i (boat i).seat value signature → (Submits S (boat i) value → ⊥) → ⊥
    submitted_of i value signature c (inl r) never = true≢false (sym c ∙ none i value signature r never)
    submitted_of i value signature c (inr s) never = never s.1

    -- an honest unit has not submitted two layouts
    one-layout : (i : I) (lower higher : List ℕ) → is_lower lower higher ≡ true → ((Submits S (boat i) lower → ⊥) → ⊥) → ((Submits S (boat i) higher → ⊥) → ⊥) → ⊥
    one-layout i lower higher l a b =
        a (λ s. b (λ s'. lower_differs lower higher l (sym (submits-end (boat i) (honest i) lower s) ∙ submits-end (boat i) (honest i) higher s')))

    -- both signatures of an entry check and are backed, which no entry of an honest seat meets
    abbrev Both : I → Pair → Type 0
    Both j p =
        (checks p.seat p.lower_value p.lower ≡ true) × Backed j p.seat p.lower_value p.lower
        × (checks p.seat p.higher_value p.higher ≡ true) × Backed j p.seat p.higher_value p.higher

    not_both : (i : I) (p : Pair) → lower_first p ≡ true → (boat i).seat ≡ p.seat → Both i p → ⊥
    unfolding lower_first
    not_both i p l e h =
        let lower = p.lower_value in
        let higher = p.higher_value in
        let b : (checks (boat i).seat lower p.lower ≡ true) × Backed i (boat i).seat lower p.lower × (checks (boat i).seat higher p.higher ≡ true) × Backed i (boat i).seat higher p.higher =
        subst (λ s. (checks s lower p.lower ≡ true) × Backed i s lower p.lower × (checks s higher p.higher ≡ true) × Backed i s higher p.higher) (sym e) h in
        one-layout i lower higher l (submitted_of i lower p.lower b.0 b.1) (submitted_of i higher p.higher b.2 b.3)

    -- the same for an entry that another unit has stored
    unnamed_at : (i j : I) (p : Pair) → lower_first p ≡ true → (boat i).seat ≡ p.seat → checks p.seat p.lower_value p.lower ≡ true → Backed j p.seat p.lower_value p.lower → checks p.seat p.higher_value p.higher ≡ true → Backed j p.seat p.higher_value p.higher → ⊥
    unnamed_at i j p l e c (inl a) d (inl b) = not_both i p l e (c, inl a, d, inl b)
    unnamed_at i j p l e c (inr a) d b = not_both j p l (sym a.0) (c, inr a, d, b)
    unnamed_at i j p l e c (inl a) d (inr b) = not_both j p l (sym b.0) (c, inl a, d, inr b)

    unnamed : (i j : I) (ps : List Pair) → Each (λ (p : Pair). lower_first p ≡ true) ps → Each (Both j) ps → Memᴰ (boat i).seat (map (λ (p : Pair). p.seat) ps) → ⊥
    unnamed i j ps l h d =
        let m = Memᴰ.of_map (λ (p : Pair). p.seat) ps d in
        let b = h m.0 m.1 in
        unnamed_at i j m.0 (l m.0 m.1) (sym m.2) b.0 b.1 b.2 b.3

    backed-both : (j : I) (W : Relation) (size : ℕ) (ps : List Pair) → ((s : ℕ) (v g : List ℕ) → W s v g → Backed j s v g) → Pairs checks W size ps → Each (Both j) ps
    backed-both j W size ps f z p d =
        ((z.lows p d).checked, f p.seat p.lower_value p.lower (z.lows p d).worthy, (z.highs p d).checked, f p.seat p.higher_value p.higher (z.highs p d).worthy)

    -- ---- the three kinds of evidence

    named_in : (m : Message) (evidence : List ℕ) (seat : ℕ) → WellFormed n m → evidence ≡ render m → Names S evidence seat → Memᴰ seat (entry_seats m)
    named_in m evidence seat w e d = subst (λ x. Memᴰ seat (entry_seats x)) (ap (read n) e ∙ read-render n m w) d

    written-safe : (i j : I) (evidence : List ℕ) → WritesEvidence S (boat j) evidence → Names S evidence (boat i).seat → ⊥
    unfolding entry_seats form_seats evidence_form
    written-safe i j evidence w d =
        let m = w.message in
        let stands = w.writes.stands in
        let end = end_of S (boat j) (honest j) in
        let good = writes-good S (boat j) (honest j) (Backed j) (backed j) m w.writes in
        pack_cases checks (Backed j) end (λ x. Memᴰ (boat i).seat (entry_seats x) → ⊥) m w.kind good
        (λ ps z e. unnamed i j ps z.ordered (backed-both j (Backed j) end.n ps (λ s v h b. b) z) e)
        (named_in m evidence (boat i).seat (stands.1.0 m stands.2) w.bytes d)

    making-refused : (h : InHand) (q : ℕ) → (handled S h).refusal ≡ suc q → making_of S h ≡ render_all []
    unfolding unrefused render_all
    making-refused h q e = making-bytes h ∙ rw e

    making-unnamed : (i j : I) (h : InHand) (m : Message) → Memᴰ h (boat j).in_hand → (handled S h).refusal ≡ 0 → StandsIn n m (making_of S h) → Memᴰ (boat i).seat (entry_seats m) → ⊥
    unfolding unrefused render_all entry_seats form_seats evidence_form
    making-unnamed i j h m d e stands named =
        let r = takes.makings j h d e in
        let bytes : making_of S h ≡ render (evidence_from h.work h.a h.b) = making-bytes h ∙ rw e in
        evidence-made R h.work h.a h.b h.out e r.0 r.1 (λ x. making_of S h ≡ render x → ⊥)
        (λ outside ps z is.
        let x = Evidence round ValuesEach ps in
        let only = are_unique n (making_of S h) stands.0 (x ∷ []) stands.1 (each_one (WellFormed n) x (pairs-formed checks R n round ps outside.in_time z), is ∙ sym (append-nil (render x))) in
        let same : m ≡ x = Memᴰ.eq_of_singleton (subst (λ ms. Memᴰ m ms) only stands.2) in
        unnamed i j ps z.ordered (backed-both j R n ps (λ s v g w. inl w) z) (subst (λ y. Memᴰ (boat i).seat (entry_seats y)) same named))
        bytes

    made-safe : (i j : I) (evidence : List ℕ) → MakesEvidence S (boat j) evidence → Names S evidence (boat i).seat → ⊥
    made-safe i j evidence w d = go (handled S h).refusal refl
      where
        h : InHand
        h = w.hand

        go : (q : ℕ) → (handled S h).refusal ≡ q → ⊥
        go zero e = making-unnamed i j h w.message w.has e w.stands (named_in w.message evidence (boat i).seat (w.stands.1.0 w.message w.stands.2) w.bytes d)
        go (suc q) e =
            Memᴰ.not-nil (subst (λ ms. Memᴰ w.message ms) (are_unique n (making_of S h) w.stands.0 [] w.stands.1 (each_nil (WellFormed n), making-refused h q e)) w.stands.2)

    accepted-safe : (i : I) (evidence : List ℕ) → AcceptedFrom S R evidence → Names S evidence (boat i).seat → ⊥
    unfolding evidence_check checked_by entry_seats form_seats evidence_form not_lower_first signed
    accepted-safe i evidence a d =
        let t = (evidence_not_refused checks n round keys evidence).0 a.0 in
        evidence_cases (λ x. Taken checks n round x → not_lower_first x ≡ false → EachSigned R x → Memᴰ (boat i).seat (entry_seats x) → ⊥) (read n evidence) t.is_one
        (λ ρ form ps taken low r e.
        unnamed i i ps (every_each lower_first ps (not-false _ low))
        (λ p m.
        let c = (signed-pairs (λ s v g. checks s v g ≡ true) ps).0 taken.checked p m in
        let b = (signed-pairs R ps).0 r p m in
        (c.0, inl b.0, c.1, inl b.1)) e)
        t.message t.conflict a.1 d

-- ---- the claim

-- safety, for every relation that holds at least of the signatures that calls took
pub safe : (S : Setting) {I : Type 0} (boat : I → Boat) → ((i : I) → IsHonest S (boat i))
    → (R : Relation) → Takes S boat R → NoneForged S boat R → NoneBlamed S boat R
safe S boat honest R takes none = record {
  written = written-safe S boat honest R takes none;
  made = made-safe S boat honest R takes none;
  accepted = accepted-safe S boat honest R takes none;
}

-- safety, for the signatures that document 01 calls delivered
pub safe-delivered : (S : Setting) {I : Type 0} (boat : I → Boat) → ((i : I) → IsHonest S (boat i))
    → NoneForged S boat (Delivered S boat) → NoneBlamed S boat (Delivered S boat)
safe-delivered S boat honest none = safe S boat honest (Delivered S boat) takes none
  where
    takes : Takes S boat (Delivered S boat)
    takes = record {
      steps = λ i bytes g q s m. record { to = i; bytes = bytes; given = inl g; stands = m };
      makings = λ i h d q. (
        λ s m. record { to = i; bytes = h.a; given = inr (record { hand = h; has = d; either = inl refl }); stands = m },
        λ s m. record { to = i; bytes = h.b; given = inr (record { hand = h; has = d; either = inr refl }); stands = m },
      );
    }
