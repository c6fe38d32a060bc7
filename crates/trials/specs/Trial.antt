-- A trial of a claim: a run, and a proof that the claim is false if the run answers that the claim's premises hold there and its
-- conclusion doesn't.
-- Assumes nothing.
use Rattle.std.specs.Prelude.{ℕ, ◌≡◌, refl, Bool, true, false, cond, not, ◌&&◌, ◌||◌, ◌≢◌, eqb, leb, length}
use Rattle.std.proofs.Common.{sym, subst, ◌∙◌, true≢false, inl, ⊎_elim, eqb-true, eq-eqb, le-leb}
use Rattle.std.proofs.Math.Path.{ap, fun_ext}
use mathlib.Core.List.{List, [], ◌∷◌, Memᴰ}
use Rattle.std.proofs.lemmas.Bool.{eqb-false, not-true, not-false}
use Rattle.octets.specs.Strings.{same}
use Rattle.quorum.specs.Quorum.{has, union}
use Rattle.octets.specs.StringsLaws.{same_refl}
use Rattle.refusal.specs.Refusal.{first_of, ◌before◌}
use Rattle.refusal.specs.RefusalLaws.{both_true, both_false}
use Rattle.protocol.specs.Layout.{joined_out_length}
use Rattle.protocol.specs.Message.{Message, Evidence, Signed, render, read, signed, entry_seats}
use Rattle.protocol.specs.Record.{impossible}
use Rattle.protocol.specs.Refusals.{OUT, every, is_evidence, outside_conditions}
use Rattle.protocol.specs.Calls.{evidence_check}
use Rattle.round.specs.Round.{Setting, InHand, Are, written_over, Boat, Called, IsHonest, Family, result_of, list_of, Submits, StepGiven, making_of, MadeFrom, Delivered, AcceptedFrom, Names}
use Rattle.round.specs.Demand1.{Kind, SUBMIT, NOTICE, FULL, EVIDENCE, is_of, count, worth, most, AtMost, SendsOne}
use Rattle.round.specs.Culprits.{unit_of, SharedAreGuilty, pack_names, GuiltyOnce, WritesNewForm}
use Rattle.round.specs.Demand3.{NoneForged, NoneBlamed, ReachedOthers, Demand3}
use Rattle.round.specs.Joins.{mask_of, pair_in, own_number, number_of, joined, IsJoined, JoinsTwo, RefusesAsAlone}
use Rattle.protocol.specs.ConditionsLaws.{every_each, each_every}
use Rattle.reading.specs.ListsLaws.{cond_elim, and_false-either, or_true-either}
use Rattle.reading.specs.Messages.{all_messages}
use Rattle.trials.specs.Tests.{found, found-one, every_false, found-seat, found_no_seat, same_pair, same_pair-says, message_in, given-message, signed-given, new_form, new_form_not, apart, apart_not, readable, readable-says, same_signed, same_signed_lem, sent_in, sent_in-says, is_honest, is_honest-says, all, formed, submits, submits-says, confirms, confirms-says, have_reached, have_reached-says, blames, blames_not, first_pays, first_pays_not, accuses, accuses-says, made_on, made_on-says, all_are, member_writes, given_guilty, given_guilty_not, own_guilty, own_guilty_not}

pub record Trial {ℓ} (claim : Type ℓ) : Type ℓ where
  pub premises : Bool
  pub conclusion : Bool
  pub refutes : premises ≡ true → conclusion ≡ false → claim → ⊥

abbrev pub claim_of {ℓ} : {C : Type ℓ} → Trial C → Type ℓ
claim_of {C = C} t = C

-- answer of a run: whether the claim's premises hold, and whether its conclusion does
abbrev pub answer {ℓ} : {C : Type ℓ} → Trial C → Bool × Bool
answer t = (t.premises, t.conclusion)

pub refuted {ℓ} : {C : Type ℓ} (t : Trial C) → answer t ≡ (true, false) → C → ⊥
refuted t e = t.refutes (ap (λ (p : Bool × Bool). p.0) e) (ap (λ (p : Bool × Bool). p.1) e)

-- ---- demand 1: one boat

module _ (S : Setting) (u : Boat) where
  open S use {n}

  abbrev pub few : Kind → Bool
  few κ = leb (count (is_of κ) (all S u)) (most n κ)

  -- no more messages of a kind than a unit writes in a round
  unfoldable pub at_most : Trial (IsHonest S u → AtMost S u)
  at_most = record {
    premises = is_honest S u && formed S (all S u);
    conclusion = few SUBMIT && (few NOTICE && (few FULL && few EVIDENCE));
    refutes = λ p c claim.
        let both = both_true (is_honest S u) (formed S (all S u)) p in
        let each : (κ : Kind) → few κ ≡ true = λ κ. le-leb (count (is_of κ) (all S u)) (most n κ) (claim (is_honest-says S u both.0) (all S u) (all_are S u both.1) κ) in
        true≢false (sym (rw (each SUBMIT, each NOTICE, each FULL, each EVIDENCE)) ∙ c);
  }

  -- whether two messages are of one kind
  abbrev pub of_one_kind : Message → Message → Bool
  of_one_kind m x = found (λ κ. is_of κ m && is_of κ x) (SUBMIT ∷ NOTICE ∷ FULL ∷ EVIDENCE ∷ [])

  -- whether one is the other again, or they are packs with no seat in common
  abbrev pub again : Message → Message → Bool
  again m x = same (render m) (render x) || (is_evidence m && apart m x)

  unfoldable pub sends_one : Trial (IsHonest S u → SendsOne u)
  sends_one = record {
    premises = is_honest S u;
    conclusion = every (λ m. every (λ x. not (of_one_kind m x) || again m x) (sent_in u.events)) (sent_in u.events);
    refutes = λ p c claim.
        let sent = sent_in u.events in
        let f = every_false (λ m. every (λ x. not (of_one_kind m x) || again m x) sent) sent c in
        let m = f.0 in
        let g = every_false (λ x. not (of_one_kind m x) || again m x) sent f.2 in
        let x = g.0 in
        let differ = both_false (not (of_one_kind m x)) (again m x) g.2 in
        let neither = both_false (same (render m) (render x)) (is_evidence m && apart m x) differ.1 in
        let found = found-one (λ κ. is_of κ m && is_of κ x) (SUBMIT ∷ NOTICE ∷ FULL ∷ EVIDENCE ∷ []) (not-false (of_one_kind m x) differ.0) in
        let κ = found.0 in
        let kind = both_true (is_of κ m) (is_of κ x) found.2 in
        ⊎_elim (λ e. true≢false (sym (same_refl (render m)) ∙ ap (λ y. same (render m) (render y)) e ∙ neither.0))
        (λ e.
        ⊎_elim (λ q. true≢false (sym (subst (λ k. is_of k m ≡ true) e.0 kind.0) ∙ q)) (λ q. apart_not m x q e.1) (and_false-either (is_evidence m) (apart m x) neither.1))
        (claim (is_honest-says S u p) κ m x kind.0 kind.1 (sent_in-says u.events m f.1) (sent_in-says u.events x g.1));
  }

  -- whether what the list writes is messages one after another
  unfoldable pub readable_all : Trial (IsHonest S u → (ms : List Message) × Are n (written_over S (list_of S u)) ms)
  readable_all = record {
    premises = is_honest S u;
    conclusion = readable n (length (all S u)) (written_over S (list_of S u));
    refutes = λ p c claim.
        let is = claim (is_honest-says S u p) in
        true≢false (sym (subst (λ bytes. readable n (length (all S u)) bytes ≡ true) (sym is.1.1) (readable-says n (length (all S u)) is.0 is.1.0)) ∙ c);
  }

  -- whether the record that comes out of a call is possible
  abbrev pub possible : Called → Bool
  possible c = not (impossible (result_of S c).unit)

  unfoldable pub possible_each : Trial (IsHonest S u → (c : Called) → Memᴰ c (list_of S u) → impossible (result_of S c).unit ≡ false)
  possible_each = record {
    premises = is_honest S u;
    conclusion = every possible (list_of S u);
    refutes = λ p c claim.
        let f = every_false possible (list_of S u) c in
        true≢false (sym (not-false (impossible (result_of S f.0).unit) f.2) ∙ claim (is_honest-says S u p) f.0 f.1);
  }

  -- ---- more culprits (document 02, item 3)

  -- whether all seats are guilty that a certificate which conflicts with the first one held shares with it
  unfoldable pub shared_are_guilty : Trial (IsHonest S u → SharedAreGuilty S u)
  shared_are_guilty = record {
    premises = is_honest S u;
    conclusion = every (given_guilty S (unit_of S u)) (list_of S u) && own_guilty S (unit_of S u);
    refutes = λ p c claim.
        let shared = claim (is_honest-says S u p) in
        ⊎_elim (λ q. let f = every_false (given_guilty S (unit_of S u)) (list_of S u) q in given_guilty_not S u shared f.0 f.1 f.2) (λ q. own_guilty_not S u shared q)
        (and_false-either (every (given_guilty S (unit_of S u)) (list_of S u)) (own_guilty S (unit_of S u)) c);
  }

  -- whether each of these seats stands in one pack if it is guilty, and in none otherwise
  abbrev pub in_one_pack : ℕ → Bool
  in_one_pack seat = eqb (count (pack_names seat) (all S u)) (worth (has seat (unit_of S u).guilty))

  unfoldable pub guilty_once : List ℕ → Trial (IsHonest S u → GuiltyOnce S u)
  guilty_once tried = record {
    premises = is_honest S u && formed S (all S u);
    conclusion = every in_one_pack tried;
    refutes = λ p c claim.
        let both = both_true (is_honest S u) (formed S (all S u)) p in
        let f = every_false in_one_pack tried c in
        let seat = f.0 in
        true≢false (sym (eq-eqb (count (pack_names seat) (all S u)) (worth (has seat (unit_of S u).guilty)) (claim (is_honest-says S u both.0) (all S u) (all_are S u both.1) seat)) ∙ f.2);
  }

  -- whether every pack is 0x07
  unfoldable pub writes_new_form : Trial (IsHonest S u → WritesNewForm S u)
  writes_new_form = record {
    premises = is_honest S u && formed S (all S u);
    conclusion = every new_form (all S u);
    refutes = λ p c claim.
        let both = both_true (is_honest S u) (formed S (all S u)) p in
        let f = every_false new_form (all S u) c in
        let m = new_form_not f.0 f.2 in
        m.4 (claim (is_honest-says S u both.0) m.0 m.1 m.2 (member_writes S u both.1 (Evidence m.0 m.1 m.2) (subst (λ x. Memᴰ x (all S u)) m.3 f.1)));
  }

  -- whether the first pack names enough seats, for the boat alone
  unfoldable pub first_pack_pays : Trial (Family S (λ (i : Unit {0}). u) → Demand3 S (λ (i : Unit {0}). u))
  first_pack_pays = record {
    premises = is_honest S u && formed S (all S u);
    conclusion = first_pays S (all S u);
    refutes = λ p c claim.
        let both = both_true (is_honest S u) (formed S (all S u)) p in
        let w = first_pays_not S u both.1 c in
        w.2 ((claim (record { honest = λ i. is_honest-says S u both.0; apart = λ i j d. absurd (d refl) })).first_pack tt w.0 w.1);
  }

-- ---- demand 3: some boats

-- what boats have done: the calls that count, and the messages that they write
pub record Done (I : Type 0) : Type 0 where
  pub calls : I → List Called
  pub messages : I → List Message

-- all boats, each with a number of its own; and a function of the boats with each of its values computed once
pub record Crew (I : Type 0) : Type 1 where
  pub everyone : List I
  pub complete : (i : I) → Memᴰ i everyone
  pub place : I → ℕ
  pub at : ℕ → I
  pub at_place : (i : I) → at (place i) ≡ i
  pub shared : {A : Type 0} → (I → A) → I → A
  pub shared_same : {A : Type 0} (f : I → A) (i : I) → shared f i ≡ f i

module _ (S : Setting) {I : Type 0} (crew : Crew I) (boat : I → Boat) where
  open S use {n, round, keys, checks}

  abbrev pub alike : I → I → Bool
  alike i j = eqb (crew.place i) (crew.place j)

  alike_same : (i j : I) → alike i j ≡ true → i ≡ j
  alike_same i j e = sym (crew.at_place i) ∙ ap crew.at (eqb-true (crew.place i) (crew.place j) e) ∙ crew.at_place j

  abbrev pub each : (I → Bool) → Bool
  each test = every test crew.everyone

  each_says : (test : I → Bool) → each test ≡ true → (i : I) → test i ≡ true
  each_says test e i = every_each test crew.everyone e i (crew.complete i)

  abbrev pub someone : (I → Bool) → Bool
  someone test = found test crew.everyone

  -- what the boats have done, and the same, computed once
  abbrev done : Done I
  done = record { calls = λ i. list_of S (boat i); messages = λ i. all S (boat i) }

  unfoldable pub computed : Done I
  computed =
      let calls : I → List Called = crew.shared (λ i. list_of S (boat i)) in
      record { calls = calls; messages = crew.shared (λ i. all_messages S (calls i)) }

  pub computed_same : computed ≡ done
  unfolding computed all
  computed_same =
      let calls : crew.shared (λ i. list_of S (boat i)) ≡ (λ i. list_of S (boat i)) = fun_ext (crew.shared_same (λ i. list_of S (boat i))) in
      ap (λ (c : I → List Called). record { calls = c; messages = crew.shared (λ i. all_messages S (c i)) }) calls
      ∙ ap (λ (m : I → List Message). record { calls = λ i. list_of S (boat i); messages = m }) (fun_ext (crew.shared_same (λ i. all_messages S (list_of S (boat i)))))

  -- a trial by tests of what the boats have done
  abbrev trial_by {ℓ} : {claim : Type ℓ} (premises conclusion : Done I → Bool) → (premises done ≡ true → conclusion done ≡ false → claim → ⊥) → Trial claim
  trial_by premises conclusion refutes =
      let d : Done I = computed in
      record {
        premises = premises d;
        conclusion = conclusion d;
        refutes = λ p c. refutes (subst (λ (x : Done I). premises x ≡ true) computed_same p) (subst (λ (x : Done I). conclusion x ≡ false) computed_same c);
      }

  -- honest boats, each in its own seat, and well-formed messages written
  abbrev pub seated_apart : I → I → Bool
  seated_apart i j = alike i j || not (eqb (boat i).seat (boat j).seat)

  abbrev pub family : Done I → Bool
  family d = each (λ i. is_honest S (boat i)) && (each (λ i. each (seated_apart i)) && each (λ i. formed S (d.messages i)))

  pub family-says : family done ≡ true → Family S boat × ((i : I) → formed S (all S (boat i)) ≡ true)
  family-says e =
      let a = both_true (each (λ i. is_honest S (boat i))) (each (λ i. each (seated_apart i)) && each (λ i. formed S (all S (boat i)))) e in
      let b = both_true (each (λ i. each (seated_apart i))) (each (λ i. formed S (all S (boat i)))) a.1 in (
        record {
          honest = λ i. is_honest-says S (boat i) (each_says (λ l. is_honest S (boat l)) a.0 i);
          apart = λ i j other same.
              ⊎_elim (λ q. other (alike_same i j q)) (λ q. eqb-false (boat i).seat (boat j).seat (not-true (eqb (boat i).seat (boat j).seat) q) same)
              (or_true-either (alike i j) (not (eqb (boat i).seat (boat j).seat)) (each_says (seated_apart i) (each_says (λ l. each (seated_apart l)) b.0 i) j));
        },
        each_says (λ i. formed S (all S (boat i))) b.1,
      )

  -- ---- accountability

  abbrev pub reached_others : Done I → I → Bool
  reached_others d i = each (λ l. alike l i || have_reached S (d.messages i) (d.calls l))

  pub reached_others-says : (i : I) → formed S (all S (boat i)) ≡ true → reached_others done i ≡ true → ReachedOthers S boat i
  reached_others-says i f e l other =
      let reached : I → Bool = λ x. have_reached S (all S (boat i)) (list_of S (boat x)) in
      ⊎_elim (λ q. absurd (other (alike_same l i q))) (λ q. have_reached-says S (boat i) f (boat l) q)
      (or_true-either (alike l i) (reached l) (each_says (λ x. alike x i || reached x) e l))

  -- whether every boat blames, where two boats confirm two layouts
  unfoldable pub accountability : I → I → List ℕ → List ℕ → Trial (Family S boat → Demand3 S boat)
  accountability i j a b =
      trial_by
      (λ d. family d && (not (same a b) && (confirms S (d.messages i) a && (confirms S (d.messages j) b && (reached_others d i && reached_others d j)))))
      (λ d. each (λ l. blames S (d.messages l)))
      (λ p c claim.
      let mine = confirms S (all S (boat i)) a in
      let other = confirms S (all S (boat j)) b in
      let q = both_true (family done) (not (same a b) && (mine && (other && (reached_others done i && reached_others done j)))) p in
      let r = both_true (not (same a b)) (mine && (other && (reached_others done i && reached_others done j))) q.1 in
      let s = both_true mine (other && (reached_others done i && reached_others done j)) r.1 in
      let t = both_true other (reached_others done i && reached_others done j) s.1 in
      let u = both_true (reached_others done i) (reached_others done j) t.1 in
      let known = family-says q.0 in
      let formed = known.1 in
      let different : a ≢ b = λ e. true≢false (sym (subst (λ x. same a x ≡ true) e (same_refl a)) ∙ not-true (same a b) r.0) in
      let l = every_false (λ l. blames S (all S (boat l))) crew.everyone c in
      blames_not S (boat l.0) (formed l.0) l.2
      ((claim known.0).accountability i j a b different (confirms-says S (boat i) (formed i) a s.0) (confirms-says S (boat j) (formed j) b t.0)
      (reached_others-says i (formed i) u.0) (reached_others-says j (formed j) u.1) l.0))

  -- ---- safety

  -- whether a signature isn't forged: of another seat than the boat's, or over a layout that it submitted, or one that doesn't check
  abbrev pub genuine : Done I → I → Signed → Bool
  genuine d i s = not (eqb s.seat (boat i).seat) || (submits S (d.calls i) s.value || not (checks s.seat s.value s.signature))

  genuine-says : (i : I) (layout signature : List ℕ) → genuine done i (record { seat = (boat i).seat; value = layout; signature = signature }) ≡ true → (Submits S (boat i) layout → ⊥) → checks (boat i).seat layout signature ≡ false
  genuine-says i layout signature e never =
      let own = eqb (boat i).seat (boat i).seat in
      let said = submits S (list_of S (boat i)) layout in
      let bad = not (checks (boat i).seat layout signature) in
      ⊎_elim (λ q. absurd (true≢false (sym (eq-eqb (boat i).seat (boat i).seat refl) ∙ not-true own q)))
      (λ q. ⊎_elim (λ p. absurd (never (submits-says S (boat i) layout p))) (λ p. not-true (checks (boat i).seat layout signature) p) (or_true-either said bad q))
      (or_true-either (not own) (said || bad) e)

  -- whether no signature of a message is forged, of those that a boat's steps are given, and of those that it has in hand
  abbrev pub genuine_in : Done I → I → Message → Bool
  genuine_in d i m = every (genuine d i) (signed m)

  abbrev pub genuine_given : Done I → I → Called → Bool
  genuine_given d i c = genuine_in d i (message_in n c.given)

  abbrev pub genuine_in_hand : Done I → I → InHand → Bool
  genuine_in_hand d i h = genuine_in d i (read n h.a) && genuine_in d i (read n h.b)

  abbrev pub none_forged : Done I → Bool
  none_forged d = each (λ i. each (λ j. every (genuine_given d i) (d.calls j) && every (genuine_in_hand d i) (boat j).in_hand))

  pub none_forged-says : none_forged done ≡ true → NoneForged S boat (Delivered S boat)
  none_forged-says e i layout signature d never = ⊎_elim stepped made d.given
    where
      s : Signed
      s = record { seat = (boat i).seat; value = layout; signature = signature }

      tests : I → I → Bool
      tests l j = every (genuine_given done l) (list_of S (boat j)) && every (genuine_in_hand done l) (boat j).in_hand

      both : (every (genuine_given done i) (list_of S (boat d.to)) ≡ true) × (every (genuine_in_hand done i) (boat d.to).in_hand ≡ true)
      both = both_true _ _ (each_says (tests i) (each_says (λ l. each (tests l)) e i) d.to)

      in_message : (m : Message) → genuine_in done i m ≡ true → Memᴰ s (signed m) → checks (boat i).seat layout signature ≡ false
      in_message m g z = genuine-says i layout signature (every_each (genuine done i) (signed m) g s z) never

      stepped : StepGiven S (boat d.to) d.bytes → checks (boat i).seat layout signature ≡ false
      stepped g =
          let m = message_in n g.call.given in
          in_message m (every_each (genuine_given done i) (list_of S (boat d.to)) both.0 g.call g.in_list)
          (subst (λ x. Memᴰ s (signed x)) (sym (given-message n g.call.given d.bytes g.out g.is_step)) d.stands)

      made : MadeFrom S (boat d.to) d.bytes → checks (boat i).seat layout signature ≡ false
      made h =
          let hand = both_true (genuine_in done i (read n h.hand.a)) (genuine_in done i (read n h.hand.b)) (every_each (genuine_in_hand done i) (boat d.to).in_hand both.1 h.hand h.has) in
          let here : (bytes : List ℕ) → d.bytes ≡ bytes → genuine_in done i (read n bytes) ≡ true → checks (boat i).seat layout signature ≡ false =
          λ bytes q g. in_message (read n bytes) g (subst (λ x. Memᴰ s (signed (read n x))) q d.stands) in
          ⊎_elim (λ q. here h.hand.a q hand.0) (λ q. here h.hand.b q hand.1) h.either

  -- whether a signature is in the message of a step in a list
  abbrev pub delivered : Done I → Signed → Bool
  delivered d s = someone (λ i. found (λ (c : Called). found (same_signed s) (signed (message_in n c.given))) (d.calls i))

  delivered-says : (s : Signed) → delivered done s ≡ true → Delivered S boat s.seat s.value s.signature
  delivered-says s e =
      let i = found-one (λ i. found (λ (c : Called). found (same_signed s) (signed (message_in n c.given))) (list_of S (boat i))) crew.everyone e in
      let c = found-one (λ (c : Called). found (same_signed s) (signed (message_in n c.given))) (list_of S (boat i.0)) i.2 in
      let z = found-one (same_signed s) (signed (message_in n c.0.given)) c.2 in
      let g = signed-given n c.0.given s (subst (λ x. Memᴰ x (signed (message_in n c.0.given))) (sym (same_signed_lem s z.0 z.2)) z.1) in
      record { to = i.0; bytes = g.0; given = inl (record { call = c.0; in_list = c.1; out = g.1; is_step = g.2 }); stands = g.3 }

  -- whether evidence is accepted from delivered signatures and names the boat's seat
  abbrev pub framed : Done I → I → List ℕ → Bool
  framed d i evidence =
      eqb (evidence_check checks n round keys evidence).number 0
      && (every (delivered d) (signed (read n evidence)) && found (eqb (boat i).seat) (entry_seats (read n evidence)))

  pub framed-says : (i : I) (evidence : List ℕ) → framed done i evidence ≡ true → AcceptedFrom S (Delivered S boat) evidence × Names S evidence (boat i).seat
  framed-says i evidence e =
      let m = read n evidence in
      let number = (evidence_check checks n round keys evidence).number in
      let a = both_true (eqb number 0) (every (delivered done) (signed m) && found (eqb (boat i).seat) (entry_seats m)) e in
      let b = both_true (every (delivered done) (signed m)) (found (eqb (boat i).seat) (entry_seats m)) a.1 in
      ((eqb-true number 0 a.0, λ s d. delivered-says s (every_each (delivered done) (signed m) b.0 s d)), found-seat (boat i).seat (entry_seats m) b.1)

  -- whether a boat's seat is in evidence that a boat writes, or makes or joins from what it has in hand, or in one of these that is accepted
  -- from delivered signatures
  abbrev pub accused : Done I → I → Bool
  accused d i = someone (λ j. accuses S (d.messages j) (boat i).seat)

  abbrev pub accused_in_hand : I → Bool
  accused_in_hand i = someone (λ j. found (λ (h : InHand). made_on S (boat i).seat (making_of S h)) (boat j).in_hand)

  -- whether no boat's seat is, where no signature is forged
  unfoldable pub safety : List (List ℕ) → Trial (Family S boat → Demand3 S boat)
  safety tried =
      trial_by (λ d. family d && none_forged d) (λ d. each (λ i. not (accused d i || (accused_in_hand i || found (framed d i) tried))))
      (λ p c claim.
      let a = both_true (family done) (none_forged done) p in
      let known = family-says a.0 in
      let none : NoneBlamed S boat (Delivered S boat) = (claim known.0).safety (none_forged-says a.1) in
      let l = every_false (λ i. not (accused done i || (accused_in_hand i || found (framed done i) tried))) crew.everyone c in
      let i = l.0 in
      ⊎_elim
      (λ q.
      let j = found-one (λ j. accuses S (all S (boat j)) (boat i).seat) crew.everyone q in
      let w = accuses-says S (boat j.0) (known.1 j.0) (boat i).seat j.2 in
      none.written i j.0 w.0 w.1 w.2)
      (λ q.
      ⊎_elim
      (λ r.
      let j = found-one (λ j. found (λ (h : InHand). made_on S (boat i).seat (making_of S h)) (boat j).in_hand) crew.everyone r in
      let h = found-one (λ (h : InHand). made_on S (boat i).seat (making_of S h)) (boat j.0).in_hand j.2 in
      let w = made_on-says S (boat j.0) h.0 (boat i).seat h.1 h.2 in
      none.made i j.0 (making_of S h.0) w.0 w.1)
      (λ r.
      let e = found-one (framed done i) tried r in
      let w = framed-says i e.0 e.2 in
      none.accepted i e.0 w.0 w.1)
      (or_true-either (accused_in_hand i) (found (framed done i) tried) q))
      (or_true-either (accused done i) (accused_in_hand i || found (framed done i) tried) (not-false _ l.2)))

-- ---- packs joined (document 02, item 5)

module _ (S : Setting) (a b : List ℕ) where
  open S use {n, round, keys, checks}

  -- whether bytes name a seat
  abbrev pub names : List ℕ → ℕ → Bool
  names evidence seat = found (eqb seat) (entry_seats (read n evidence))

  -- whether a seat has the pair of the first of the two packs that names it
  abbrev pub first_pair : List ℕ → ℕ → Bool
  first_pair evidence seat =
      cond (names a seat) (same_pair (pair_in S evidence seat) (pair_in S a seat)) (not (names b seat) || same_pair (pair_in S evidence seat) (pair_in S b seat))

  pub first_pair_lem : (evidence : List ℕ) (seat : ℕ) → IsJoined S a b evidence → first_pair evidence seat ≡ true
  first_pair_lem evidence seat j =
      cond_elim (λ x. x ≡ true) (names a seat) _ _ (λ q. same_pair-says _ _ (j.first seat (found-seat seat (entry_seats (read n a)) q)))
      (λ q. by_second (names b seat) refl (found_no_seat seat (entry_seats (read n a)) q))
    where
      by_second : (named : Bool) → names b seat ≡ named → (Names S a seat → ⊥) → (not named || same_pair (pair_in S evidence seat) (pair_in S b seat)) ≡ true
      by_second true e none = same_pair-says _ _ (j.second seat none (found-seat seat (entry_seats (read n b)) e))
      by_second false e none = refl

  -- whether what is joined is accepted, names the union, and has for each of these seats the first pack's pair
  unfoldable pub joins_two : List ℕ → List ℕ → Trial (JoinsTwo S)
  joins_two out tried =
      let evidence : List ℕ = joined S a b out in
      record {
        premises = eqb (number_of S a b out) 0;
        conclusion = eqb (evidence_check checks n round keys evidence).number 0 && (eqb (mask_of S evidence) (union (mask_of S a) (mask_of S b)) && every (first_pair evidence) tried);
        refutes = λ p c claim.
            let j = claim.becomes a b out (eqb-true (number_of S a b out) 0 p) in
            true≢false (sym (rw (eq-eqb _ 0 j.pack.accepted, eq-eqb _ _ j.mask, each_every (first_pair (joined S a b out)) tried (λ seat d. first_pair_lem (joined S a b out) seat j))) ∙ c);
      }

  -- whether the number is the one of the other arguments, else the first pack's own, else the second's
  unfoldable pub refuses_as_alone : List ℕ → Trial (RefusesAsAlone S)
  refuses_as_alone out =
      let given = first_of (outside_conditions n round keys) before first_of (OUT (joined_out_length n) out ∷ []) before own_number S a before own_number S b in
      record { premises = true; conclusion = eqb (number_of S a b out) given; refutes = λ p c claim. true≢false (sym (eq-eqb (number_of S a b out) given (claim a b out)) ∙ c) }
