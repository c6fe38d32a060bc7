-- Records that aren't impossible, messages that aren't refused, and facts that such a message brings.
-- Assumes nothing.
use Rattle.std.specs.Prelude.{◌≡◌, refl, Bool, true, false, ◌&&◌, ◌||◌, ◌↔◌, ℕ, ◌≤◌, ◌<◌, ltb, eqb, length}
use Rattle.std.proofs.Common.{ap, ◌∙◌, inl, arith, pow_pos}
use Rattle.std.proofs.Math.Bool.{not}
use Rattle.std.proofs.lemmas.Bool.{false≢true}
use mathlib.Core.List.Memᴰ
use mathlib.Core.List.{List, ◌++◌, map, flat_map}
use Rattle.std.proofs.Math.Logic.{⊎_elim}
use borrow.Author.Tests.{ltb-true, lt-ltb, le-ltb, lt-leb, eqb-true, eqb-false, eq-eqb, ne_eqb, not-true, not-false}
use Rattle.octets.specs.Strings.{same}
use Rattle.octets.specs.StringsLaws.{same_refl}
use Rattle.quorum.specs.Quorum.{k, has, size, shared}
use Rattle.quorum.specs.QuorumLaws.{has_true, outside-false, bit-empty, size-empty}
use Rattle.refusal.specs.Refusal.{first_of}
use Rattle.refusal.specs.RefusalLaws.{first_of-zero}
use Rattle.protocol.specs.Layout.{signature_length}
use Rattle.protocol.specs.Values.{unset}
use Rattle.protocol.specs.Entries.{form_seats}
use Rattle.protocol.specs.EntriesLaws.{each_flat}
use Rattle.protocol.specs.ConditionsLaws.{every_each, each_every}
use Rattle.protocol.specs.Message.{Entry, Pair, ValuesEach, Message, Full, Evidence, full_form, evidence_form, Signed, signed_entry, signed_pair, signed, round_of, entry_seats, seats_of}
use Rattle.protocol.specs.Record.{fresh, wrong_seat, none_heard, holds, out_of_range, wrong_heard, names_stranger, wrong_collected, wrong_first, lacks_first, wrong_guilty, wrong_sent, wrong_kept, wrong_unset, impossible, InRange}
use Rattle.protocol.specs.Refusals.{Condition, Checks, every, said, other_round, stranger, rising, disorder, bad_signature, message_conditions}
use Rattle.protocol.specs.Step.{owes_full}
use Rattle.protocol.specs.declared.Record.{Record}
use Rattle.round.specs.Round.{Each, Relation, EachSigned}
use Rattle.reading.specs.ListsLaws.{or_true-either, each_cons, each_one, each_map}
use Rattle.claims.specs.Sound.{Settled, Attested, Entries, Pairs, Sound}
use Rattle.protocol.specs.RecordLaws.{size_right, round_right}
use Rattle.claims.specs.Parts.{shared_none, k_pos}
use Rattle.reading.specs.Reading.{Sized}

-- ---- records for which the invariant holds are possible

implied : (a b : Bool) → (a ≡ true → b ≡ true) → (a && not b) ≡ false
implied true b h = rw (h refl)
implied false b h = refl

module _ (checks : Checks) (W : Relation) (r : Record) (store : List ℕ) (z : Sound checks W r store) (e : Settled r) where
  in_range : out_of_range r ≡ false
  unfolding out_of_range wrong_seat
  in_range = rw (size_right r.n z.range.some z.range.most, lt-leb r.n r.seat z.range.seated, round_right r.round z.range.dated)

  heard_right : wrong_heard r ≡ false
  unfolding wrong_heard
  heard_right = le-ltb 2 r.notices.heard z.heard.few

  no_stranger : names_stranger r ≡ false
  unfolding names_stranger
  no_stranger =
      rw ((outside-false r.n r.own.collected).1 z.own.collection.below, (outside-false r.n r.first.seats).1 z.first.below, (outside-false r.n r.guilty).1 z.first.guilty_below, (outside-false r.n r.kept).1 z.kept.below)

  collected_right : wrong_collected r ≡ false
  unfolding wrong_collected
  collected_right =
      let c = r.own.collected in
      let none = implied (not r.own.submitted) (eqb c 0) (λ q. eq-eqb c 0 (z.own.unsaid (not-true r.own.submitted q)).0) in
      let own = implied r.own.submitted (has r.seat c) (λ q. (has_true r.seat c).1 (z.own.said q)) in
      let complete = implied (eqb (size c) (k r.n)) r.confirmed (λ q. e.complete (eqb-true (size c) (k r.n) q)) in
      let full = implied r.confirmed (eqb (size c) (k r.n)) (λ q. eq-eqb (size c) (k r.n) (z.flags.full q)) in
      rw (none, own, le-ltb (k r.n) (size c) z.own.collection.few, complete, full)

  first_right : wrong_first r ≡ false
  unfolding wrong_first
  first_right =
      let f = r.first.seats in
      implied (not (eqb (size f) 0)) (eqb (size f) (k r.n))
      (λ q. ⊎_elim (λ p. absurd (eqb-false (size f) 0 (not-true (eqb (size f) 0) q) (ap size p ∙ size-empty))) (λ p. eq-eqb (size f) (k r.n) p) z.first.enough)

  first_there : lacks_first r ≡ false
  unfolding lacks_first holds
  first_there =
      let f = r.first.seats in
      implied (r.confirmed || not (eqb r.guilty 0)) (not (eqb f 0))
      (λ q. rw (ne_eqb f 0 (λ p. ⊎_elim (λ c. (e.holds c).0 p) (λ g. eqb-false r.guilty 0 (not-true (eqb r.guilty 0) g) (z.first.unheld p).1) (or_true-either r.confirmed (not (eqb r.guilty 0)) q))))

  guilty_right : wrong_guilty r ≡ false
  unfolding wrong_guilty
  guilty_right = rw (eq-eqb (shared r.guilty r.first.seats) r.guilty z.first.guilty_within)

  sent_right : wrong_sent r ≡ false
  unfolding wrong_sent
  sent_right = implied r.sent r.confirmed z.flags.confirmed

  kept_right : wrong_kept r ≡ false
  unfolding wrong_kept
  kept_right = implied r.own.submitted (eqb r.kept 0) (λ q. eq-eqb r.kept 0 (e.emptied q))

  unset_right : wrong_unset r ≡ false
  unfolding wrong_unset none_heard holds
  unset_right =
      let own = implied (not r.own.submitted) (same r.own.value unset) (λ q. rw (z.own.unsaid (not-true r.own.submitted q)).1 (same_refl unset)) in
      let heard = implied (eqb r.notices.heard 0) (same r.notices.value unset) (λ q. rw (z.heard.unheard (eqb-true r.notices.heard 0 q)) (same_refl unset)) in
      let first = implied (not (not (eqb r.first.seats 0))) (same r.first.value unset) (λ q. rw (z.first.unheld (eqb-true r.first.seats 0 (not-false (eqb r.first.seats 0) (not-true (not (eqb r.first.seats 0)) q)))).0 (same_refl unset)) in
      rw (own, heard, first)

  pub possible : impossible r ≡ false
  unfolding impossible
  possible = rw (in_range, heard_right, no_stranger, collected_right, first_right, first_there, guilty_right, sent_right, kept_right, unset_right)

-- ---- the invariant of the record with nothing set, with any store

pub fresh-sound : (checks : Checks) (W : Relation) (n seat round : ℕ) (store : List ℕ) → InRange n seat round → Sound checks W (fresh n seat round) store
unfolding fresh unset
fresh-sound checks W n seat round store range = record {
  range = range;
  own = record {
    collection = record { sized = refl; below = pow_pos n; few = omega (arith, size-empty); attested = λ s i. absurd (omega (arith, bit-empty s)) };
    unsaid = λ e. (refl, refl);
    said = λ e. absurd (false≢true e);
  };
  heard = record { sized = refl; few = omega arith; unheard = λ e. refl };
  first = record {
    sized = refl;
    below = pow_pos n;
    enough = inl refl;
    attested = λ s i. absurd (omega (arith, bit-empty s));
    guilty_below = pow_pos n;
    guilty_within = shared_none 0;
    unheld = λ e. (refl, refl);
  };
  flags = record { full = λ e. absurd (false≢true e); confirmed = λ e. absurd (false≢true e) };
  kept = record { below = pow_pos n; attested = λ s i. absurd (omega (arith, bit-empty s)) };
}

pub fresh-settled : (n seat round : ℕ) → 1 ≤ n → Settled (fresh n seat round)
unfolding fresh owes_full
fresh-settled n seat round some = record {
  complete = λ e. absurd (omega (arith, size-empty, k_pos n some));
  holds = λ e. absurd (false≢true e);
  owes = refl;
  emptied = λ e. refl;
}

-- ---- the signatures of a message, entry by entry

module _ (P : Relation) where
  abbrev ForSigned : Signed → Type 0
  ForSigned s = P s.seat s.value s.signature

  pub signed-entries : (value : List ℕ) (es : List Entry) → Each ForSigned (flat_map (signed_entry value) es) ↔ Each (λ (e : Entry). P e.seat value e.signature) es
  unfolding signed_entry
  signed-entries value es =
      let each = each_flat (signed_entry value) ForSigned es in
      (λ h e d. each.0 h e d _ (Memᴰ.head refl), λ h. each.1 (λ e d. each_one ForSigned _ (h e d)))

  -- a pair's two, over its own values
  pub signed-pairs : (ps : List Pair) → Each ForSigned (flat_map signed_pair ps) ↔ Each (λ (p : Pair). P p.seat p.lower_value p.lower × P p.seat p.higher_value p.higher) ps
  unfolding signed_pair
  signed-pairs ps =
      let each = each_flat signed_pair ForSigned ps in (
        λ h p d. let both = each.0 h p d in (both _ (Memᴰ.head refl), both _ (Memᴰ.tail (Memᴰ.head refl))),
        λ h. each.1 (λ p d. each_cons ForSigned _ _ (h p d).0 (each_one ForSigned _ (h p d).1)),
      )

-- ---- a message that isn't refused

-- facts about form and signatures, in any call
pub record Taken (checks : Checks) (n round : ℕ) (m : Message) : Type 0 where
  pub in_round : round_of m ≡ round
  pub inside : Each (λ s. s < n) (seats_of m)
  pub rises : rising (entry_seats m) ≡ true
  pub checked : EachSigned (λ s v g. checks s v g ≡ true) m

taken_of : (checks : Checks) (n round : ℕ) (m : Message) → other_round round m ≡ false → stranger n m ≡ false → disorder m ≡ false → bad_signature checks m ≡ false → Taken checks n round m
unfolding other_round stranger disorder bad_signature
taken_of checks n round m a b c d = record {
  in_round = eqb-true (round_of m) round (not-false (eqb (round_of m) round) a);
  inside = λ s e. ltb-true s n (every_each (λ (seat : ℕ). ltb seat n) (seats_of m) (not-false (every (λ (seat : ℕ). ltb seat n) (seats_of m)) b) s e);
  rises = not-false (rising (entry_seats m)) c;
  checked = every_each (λ (s : Signed). checks s.seat s.value s.signature) (signed m) (not-false (every (λ (s : Signed). checks s.seat s.value s.signature) (signed m)) d);
}

pub of_taken : (checks : Checks) (n round : ℕ) (m : Message) → Taken checks n round m → (other_round round m ≡ false) × (stranger n m ≡ false) × (disorder m ≡ false) × (bad_signature checks m ≡ false)
unfolding other_round stranger disorder bad_signature
of_taken checks n round m t = (
  rw (eq-eqb (round_of m) round t.in_round),
  rw (each_every (λ (seat : ℕ). ltb seat n) (seats_of m) (λ s d. lt-ltb s n (t.inside s d))),
  rw t.rises,
  rw (each_every (λ (s : Signed). checks s.seat s.value s.signature) (signed m) t.checked),
)

-- a message's rows, in any call's list: whether the call takes it
module _ (checks : Checks) (n round : ℕ) (takes : Bool) (m : Message) (rest : List Condition) where
  pub message-taken : first_of (message_conditions checks n round takes m ++ rest) ≡ 0 → ((takes ≡ true) × Taken checks n round m) × (first_of rest ≡ 0)
  unfolding message_conditions
  message-taken e =
      let f = first_of-zero 8 _ _ e in
      let g = first_of-zero 9 _ _ f.1 in
      let h = first_of-zero 10 _ _ g.1 in
      let i = first_of-zero 11 _ _ h.1 in
      let j = first_of-zero 13 _ _ i.1 in
      ((not-false takes f.0, taken_of checks n round m g.0 h.0 i.0 j.0), j.1)

  pub message-passes : takes ≡ true → Taken checks n round m → first_of (message_conditions checks n round takes m ++ rest) ≡ first_of rest
  unfolding message_conditions first_of
  message-passes f t =
      let h = of_taken checks n round m t in
      rw (f, h.0, h.1, h.2, h.3)

-- ---- facts that a message brings

module _ (checks : Checks) (W : Relation) where
  entries-attested : (value : List ℕ) (es : List Entry) → EachSigned (λ s v g. checks s v g ≡ true) (Full 0 0 value es) → EachSigned W (Full 0 0 value es) → Each (λ (e : Entry). length e.signature ≡ signature_length) es
      → Each (λ (e : Entry). Attested checks W e.seat value e.signature) es
  unfolding signed
  entries-attested value es c w l e d = record {
    checked = (signed-entries (λ s v g. checks s v g ≡ true) value es).0 c e d;
    sized = l e d;
    worthy = (signed-entries W value es).0 w e d;
  }

  -- a FULL that a call takes
  pub entries-taken : (n round ρ sender : ℕ) (value : List ℕ) (es : List Entry) → Taken checks n round (Full ρ sender value es) → Sized n (Full ρ sender value es) → EachSigned W (Full ρ sender value es) → Entries checks W n value es
  unfolding signed seats_of entry_seats form_seats full_form
  entries-taken n round ρ sender value es t l w = record {
    sized = l.0;
    many = l.1;
    rise = t.rises;
    below = λ e d. t.inside e.seat (Memᴰ.tail (Memᴰ.map (λ (x : Entry). x.seat) d));
    attested = entries-attested value es t.checked w (λ e d. (l.2 e d).0);
  }

  -- a FULL that a unit wrote, as another takes it
  pub full-taken : (n ρ sender : ℕ) (value : List ℕ) (es : List Entry) → sender < n → Entries checks W n value es → Taken checks n ρ (Full ρ sender value es)
  unfolding round_of signed seats_of entry_seats form_seats full_form
  full-taken n ρ sender value es l z = record {
    in_round = refl;
    inside = each_cons (λ s. s < n) sender (map (λ (e : Entry). e.seat) es) l (each_map (λ s. s < n) (λ (e : Entry). e.seat) es z.below);
    rises = z.rise;
    checked = (signed-entries (λ s v g. checks s v g ≡ true) value es).1 (λ e d. (z.attested e d).checked);
  }

  pub evidence-taken : (n ρ : ℕ) (ps : List Pair) → Pairs checks W n ps → Taken checks n ρ (Evidence ρ ValuesEach ps)
  unfolding round_of signed seats_of entry_seats form_seats evidence_form
  evidence-taken n ρ ps z = record {
    in_round = refl;
    inside = each_map (λ s. s < n) (λ (p : Pair). p.seat) ps z.below;
    rises = z.rise;
    checked = (signed-pairs (λ s v g. checks s v g ≡ true) ps).1 (λ p d. ((z.lows p d).checked, (z.highs p d).checked));
  }
