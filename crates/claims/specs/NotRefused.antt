-- Calls that are not refused (demand 1: "for a cause in document 01's table, .. and for no other"): exactly those for which no number has
-- a cause. Each record type lists what a call asks, number by number in the table's words. The claims go both ways, for every record of
-- a unit, possible or not, every message, every note and every buffer. So a call that refuses more, or everything, doesn't meet them;
-- the last claim shows it for a step.
-- Assumes nothing.
use Rattle.std.specs.Prelude.{ℕ, ◌+◌, ◌*◌, ◌≤◌, ◌<◌, ◌≡◌, refl, Bool, false, ◌&&◌, ◌||◌, ◌≢◌, ◌↔◌, eqb, length}
use Rattle.std.proofs.Common.{sym, ap, ◌∙◌, arith}
use Rattle.std.proofs.Math.Path.{subst}
use Rattle.std.proofs.Math.Bool.{true, not, true≢false}
use mathlib.Core.List.Memᴰ
use mathlib.Core.List.{List, [], ◌∷◌, ◌++◌}
use borrow.Author.Tests.{ltb-false, le-ltb, lt-leb, leb-false, eqb-true, eq-eqb, not-false}
use Rattle.octets.specs.Octets.{word_at}
use Rattle.octets.specs.Strings.{same}
use Rattle.octets.specs.StringsLaws.{same_refl, same_false}
use Rattle.quorum.specs.Quorum.{most_seats}
use Rattle.refusal.specs.Refusal.{first_of}
use Rattle.refusal.specs.RefusalLaws.{both_true, both_false, first_of-zero}
use Rattle.rfc8554.specs.Ots.{known_ots}
use Rattle.rfc8554.specs.Tree.{known_lms}
use Rattle.rfc8554.specs.Verify.{lms_type_of, ots_type_of, valid}
use Rattle.protocol.specs.Layout.{value_length, signature_length, tree_length, message_limit, key_length, key_at, store_length, out_length, evidence_out_length, joined_out_length, note_length}
use Rattle.protocol.specs.Message.{Message, Submit, Notice, Full, Evidence, Garbled, render, read, signed, seats_of, entry_seats, round_of, WellFormed}
use Rattle.protocol.specs.MessageLaws.{read-render}
use Rattle.protocol.specs.Certificate.{certificate_in}
use Rattle.protocol.specs.Record.{last_round, wrong_seat, impossible, fresh, InRange}
use Rattle.protocol.specs.Note.{note_record, NoteFits}
use Rattle.protocol.specs.NoteLaws.{note_right}
use Rattle.protocol.specs.NoteClaim.{note-written, taken-fits, taken-possible}
use Rattle.protocol.specs.Refusals.{Condition, OUT, NO_CONFLICT_IN, NO_CONFLICT_BETWEEN, Checks, every, length_isnt, wrong_key, certificate_conditions, check_conditions, make_key_conditions, sign_conditions, wrong_keys, short_store, short_out, said, is_for_step, is_full, is_evidence, is_new_evidence, wrong_lengths, rising, bad_signature, not_lower_first, equal_values, message_conditions, outside_conditions, record_conditions, opening_conditions, submit_conditions, step_conditions, evidence_conditions, two_conditions, making_conditions, pack_conditions, joined_conditions, joining_conditions, write_note_conditions, read_note_conditions}
use Rattle.protocol.specs.ConditionsLaws.{table_right}
use Rattle.protocol.specs.Signatures.{check_signature, make_key_refusal, make_key, sign_refusal, sign}
use Rattle.protocol.specs.Calls.{opened_by, opening, result_by, submit, step, making_by, making, joining, checked_by, evidence_check, noting_by, write_note, read_note}
use Rattle.protocol.specs.declared.Record.{Record}
use Rattle.round.specs.Round.{Relation, EachSigned}
use Rattle.reading.specs.ListsLaws.{each_one}
use Rattle.reading.specs.Reading.{Sized}
use Rattle.reading.specs.ReadingLaws.{read-sized}
use Rattle.claims.specs.Sound.{Any}
use Rattle.claims.specs.Whole.{Brings}
use Rattle.protocol.specs.RecordLaws.{right_size, right_round, size_right, round_right}
use Rattle.claims.specs.UnrefusedLaws.{possible, fresh-sound, fresh-settled, Taken, message-taken, message-passes, entries-taken}

-- ---- lengths

length_is : (n : ℕ) (xs : List ℕ) → length_isnt n xs ≡ false → length xs ≡ n
length_is n xs e = eqb-true (length xs) n (not-false (eqb (length xs) n) e)

-- ---- 5: the key table

-- "key table not 56 × n bytes or a type not allowed": every seat's key has the types 6 and 4
pub record Table (n : ℕ) (keys : List ℕ) : Type 0 where
  pub sized : length keys ≡ key_length * n
  pub types : (seat : ℕ) → seat < n → (word_at keys (key_at seat) ≡ 6) × (word_at keys (key_at seat + 4) ≡ 4)

pub keys_right : (keys : List ℕ) (n : ℕ) → (wrong_keys n keys ≡ false) ↔ Table n keys
keys_right keys n =
    let right = table_right n keys in
    (λ e. let r = right.0 e in record { sized = r.0; types = r.1 }, λ t. right.1 (t.sized, t.types))

-- ---- the opening

pub record OpeningFit (n seat round : ℕ) (keys : List ℕ) : Type 0 where
  -- 1, 2, 3: n is 1 to 32, the own seat below n, the round 1,023 at most
  pub range : InRange n seat round
  -- 5
  pub table : Table n keys

module _ (n seat round : ℕ) (keys : List ℕ) where
  opening-fit : first_of (opening_conditions n seat round keys) ≡ 0 → OpeningFit n seat round keys
  unfolding opening_conditions wrong_seat
  opening-fit e =
      let a = first_of-zero 0 _ _ e in
      let b = first_of-zero 1 _ _ a.1 in
      let c = first_of-zero 2 _ _ b.1 in
      let s = right_size n a.0 in
      record {
        range = record { some = s.0; most = s.1; seated = leb-false n seat b.0; dated = right_round round c.0 };
        table = (keys_right keys n).0 (first_of-zero 4 _ _ c.1).0;
      }

  pub opening_not_refused : ((opening n seat round keys).number ≡ 0) ↔ OpeningFit n seat round keys
  unfolding opening opened_by opening_conditions wrong_seat first_of
  opening_not_refused = (
    opening-fit,
    λ t. rw (size_right n t.range.some t.range.most, lt-leb n seat t.range.seated, round_right round t.range.dated, (keys_right keys n).1 t.table),
  )

-- ---- submit and step

-- arguments of both calls
pub record Lent (keys : List ℕ) (r : Record) (store out : List ℕ) : Type 0 where
  -- 4: the record is possible
  pub possible : impossible r ≡ false
  -- 5
  pub table : Table r.n keys
  -- 6: "the store grows to 4,388 × n bytes" (document 02, item 1)
  pub store_room : store_length r.n ≤ length store
  -- 7: "The out buffer becomes 1,565 + 4,424 × k" (document 02, item 3)
  pub out_room : out_length r.n ≤ length out

-- the rest of both lists of conditions
lent_of : (keys : List ℕ) (r : Record) (store out : List ℕ) (rest : List Condition) → first_of (record_conditions keys r store out ++ rest) ≡ 0 → Lent keys r store out × (first_of rest ≡ 0)
unfolding record_conditions short_store short_out
lent_of keys r store out rest e =
    let a = first_of-zero 3 _ _ e in
    let b = first_of-zero 4 _ _ a.1 in
    let c = first_of-zero 5 _ _ b.1 in
    let d = first_of-zero 6 _ _ c.1 in (
      record { possible = a.0; table = (keys_right keys r.n).0 b.0; store_room = ltb-false (length store) (store_length r.n) c.0; out_room = ltb-false (length out) (out_length r.n) d.0 },
      d.1,
    )

of_lent : (keys : List ℕ) (r : Record) (store out : List ℕ) (rest : List Condition) → Lent keys r store out → first_of (record_conditions keys r store out ++ rest) ≡ first_of rest
unfolding record_conditions short_store short_out first_of
of_lent keys r store out rest t =
    rw (t.possible, (keys_right keys r.n).1 t.table, le-ltb (length store) (store_length r.n) t.store_room, le-ltb (length out) (out_length r.n) t.out_room)

pub record SubmitFit (checks : Checks) (keys : List ℕ) (r : Record) (store value signature out : List ℕ) : Type 0 where
  -- 4 to 7
  pub lent : Lent keys r store out
  -- 8: it isn't the second
  pub first : r.own.submitted ≡ false
  -- 9: value and signature have their lengths
  pub sized_value : length value ≡ value_length
  pub sized_signature : length signature ≡ signature_length
  -- 14
  pub checked : checks r.seat value signature ≡ true

module _ (checks : Checks) (keys : List ℕ) (r : Record) (store value signature out : List ℕ) where
  pub submit-fit : first_of (submit_conditions checks keys r store value signature out) ≡ 0 → SubmitFit checks keys r store value signature out
  unfolding submit_conditions said wrong_lengths bad_signature signed every
  submit-fit e =
      let lent = lent_of keys r store out _ e in
      let f = first_of-zero 7 _ _ lent.1 in
      let g = first_of-zero 8 _ _ f.1 in
      let h = first_of-zero 13 _ _ g.1 in
      let lengths = both_false (length_isnt value_length value) (length_isnt signature_length signature) g.0 in
      record {
        lent = lent.0;
        first = f.0;
        sized_value = length_is value_length value lengths.0;
        sized_signature = length_is signature_length signature lengths.1;
        checked = (both_true (checks r.seat value signature) true (not-false (checks r.seat value signature && true) h.0)).0;
      }

  fit-submit : SubmitFit checks keys r store value signature out → first_of (submit_conditions checks keys r store value signature out) ≡ 0
  unfolding submit_conditions said wrong_lengths bad_signature signed every first_of
  fit-submit t =
      of_lent keys r store out _ t.lent
      ∙ rw (t.first, eq-eqb (length value) value_length t.sized_value, eq-eqb (length signature) signature_length t.sized_signature, t.checked)

  pub submit_not_refused : ((submit checks keys r store value signature out).refusal ≡ 0) ↔ SubmitFit checks keys r store value signature out
  unfolding submit result_by
  submit_not_refused = (submit-fit, fit-submit)

pub record StepFit (checks : Checks) (keys : List ℕ) (r : Record) (store bytes out : List ℕ) : Type 0 where
  -- 4 to 7
  pub lent : Lent keys r store out
  -- 9: the bytes are a SUBMIT, a NOTICE or a FULL
  pub for_step : is_for_step (read r.n bytes) ≡ true
  -- 10, 11, 12, 14: the round is the record's, every seat is below n, entry seats rise, every signature checks
  pub message : Taken checks r.n r.round (read r.n bytes)

module _ (checks : Checks) (keys : List ℕ) (r : Record) (store bytes out : List ℕ) where
  abbrev heard : Message
  heard = read r.n bytes

  pub step-fit : first_of (step_conditions checks keys r store heard out) ≡ 0 → StepFit checks keys r store bytes out
  unfolding step_conditions message_conditions
  step-fit e =
      let lent = lent_of keys r store out _ e in
      let t = (message-taken checks r.n r.round (is_for_step heard) heard [] lent.1).0 in
      record { lent = lent.0; for_step = t.0; message = t.1 }

  fit-step : StepFit checks keys r store bytes out → first_of (step_conditions checks keys r store heard out) ≡ 0
  unfolding step_conditions message_conditions first_of
  fit-step t = of_lent keys r store out _ t.lent ∙ message-passes checks r.n r.round (is_for_step heard) heard [] t.for_step t.message

  pub step_not_refused : ((step checks keys r store bytes out).refusal ≡ 0) ↔ StepFit checks keys r store bytes out
  unfolding step result_by
  step_not_refused = (step-fit, fit-step)

  -- facts that its message brings
  pub brings : (W : Relation) → StepFit checks keys r store bytes out → EachSigned W heard → Brings checks W r heard
  unfolding signed seats_of
  brings W t w = go heard t.message (read-sized r.n bytes) w
    where
      go : (m : Message) → Taken checks r.n r.round m → Sized r.n m → EachSigned W m → Brings checks W r m
      go (Submit ρ seat value signature) t l w =
          (t.inside seat (Memᴰ.head refl), l.0, record { checked = t.checked _ (Memᴰ.head refl); sized = l.1; worthy = w _ (Memᴰ.head refl) })
      go (Notice ρ seat value) t l w = l
      go (Full ρ sender value es) t l w = entries-taken checks W r.n r.round ρ sender value es t l w
      go (Evidence ρ form ps) t l w = tt
      go Garbled t l w = tt

-- a step with a message as document 01 lays it out
pub message_not_refused : (checks : Checks) (keys : List ℕ) (r : Record) (store out : List ℕ) (m : Message) → Lent keys r store out → WellFormed r.n m → is_for_step m ≡ true → Taken checks r.n r.round m
    → (step checks keys r store (render m) out).refusal ≡ 0
message_not_refused checks keys r store out m lent formed for_step taken =
    let reads = sym (read-render r.n m formed) in
    (step_not_refused checks keys r store (render m) out).1
    (record {
      lent = lent;
      for_step = subst (λ (x : Message). is_for_step x ≡ true) reads for_step;
      message = subst (Taken checks r.n r.round) reads taken;
    })

-- ---- the evidence check, evidence from two certificates, and two packs joined

-- arguments of these calls beside messages
pub record Outside (n round : ℕ) (keys : List ℕ) : Type 0 where
  -- 1: n is 1 to 32
  pub some : 1 ≤ n
  pub most : n ≤ most_seats
  -- 3: the round is 1,023 at most
  pub in_time : round ≤ last_round
  -- 5
  pub table : Table n keys

pub record EvidenceFit (checks : Checks) (n round : ℕ) (keys bytes : List ℕ) : Type 0 where
  -- 1, 3, 5
  pub outside : Outside n round keys
  -- 9: the bytes are an EVIDENCE
  pub is_one : is_evidence (read n bytes) ≡ true
  -- 10, 11, 12, 14
  pub message : Taken checks n round (read n bytes)
  -- 15: in each entry the lower value comes first
  pub conflict : not_lower_first (read n bytes) ≡ false

outside_of : (n round : ℕ) (keys : List ℕ) (rest : List Condition) → first_of (outside_conditions n round keys ++ rest) ≡ 0 → Outside n round keys × (first_of rest ≡ 0)
unfolding outside_conditions
outside_of n round keys rest e =
    let a = first_of-zero 0 _ _ e in
    let b = first_of-zero 2 _ _ a.1 in
    let c = first_of-zero 4 _ _ b.1 in
    let s = right_size n a.0 in
    (record { some = s.0; most = s.1; in_time = right_round round b.0; table = (keys_right keys n).0 c.0 }, c.1)

of_outside : (n round : ℕ) (keys : List ℕ) (rest : List Condition) → Outside n round keys → first_of (outside_conditions n round keys ++ rest) ≡ first_of rest
unfolding outside_conditions first_of
of_outside n round keys rest t = rw (size_right n t.some t.most, round_right round t.in_time, (keys_right keys n).1 t.table)

-- a pack's rows, in any call's list: whether the call takes it
module _ (checks : Checks) (n round : ℕ) (takes : Bool) (m : Message) (rest : List Condition) where
  pack_of_lem : first_of (pack_conditions checks n round takes m ++ rest) ≡ 0 → (takes ≡ true) × Taken checks n round m × (not_lower_first m ≡ false) × (first_of rest ≡ 0)
  unfolding pack_conditions message_conditions
  pack_of_lem e =
      let t = message-taken checks n round takes m (NO_CONFLICT_IN m ∷ rest) e in
      let u = first_of-zero 14 _ _ t.1 in
      (t.0.0, t.0.1, u.0, u.1)

  of_pack : takes ≡ true → Taken checks n round m → not_lower_first m ≡ false → first_of (pack_conditions checks n round takes m ++ rest) ≡ first_of rest
  unfolding pack_conditions message_conditions first_of
  of_pack f t l = message-passes checks n round takes m (NO_CONFLICT_IN m ∷ rest) f t ∙ rw l

module _ (checks : Checks) (n round : ℕ) (keys bytes : List ℕ) where
  abbrev given : Message
  given = read n bytes

  evidence-fit : first_of (evidence_conditions checks n round keys given) ≡ 0 → EvidenceFit checks n round keys bytes
  unfolding evidence_conditions outside_conditions pack_conditions message_conditions
  evidence-fit e =
      let outside = outside_of n round keys _ e in
      let t = pack_of_lem checks n round (is_evidence given) given [] outside.1 in
      record { outside = outside.0; is_one = t.0; message = t.1; conflict = t.2 }

  fit-evidence : EvidenceFit checks n round keys bytes → first_of (evidence_conditions checks n round keys given) ≡ 0
  unfolding evidence_conditions outside_conditions pack_conditions message_conditions first_of
  fit-evidence t =
      of_outside n round keys (pack_conditions checks n round (is_evidence given) given) t.outside
      ∙ of_pack checks n round (is_evidence given) given [] t.is_one t.message t.conflict

  pub evidence_not_refused : ((evidence_check checks n round keys bytes).number ≡ 0) ↔ EvidenceFit checks n round keys bytes
  unfolding evidence_check checked_by
  evidence_not_refused = (evidence-fit, fit-evidence)

pub record MakingFit (checks : Checks) (n round : ℕ) (keys a b out : List ℕ) : Type 0 where
  -- 1, 3, 5
  pub outside : Outside n round keys
  -- 7: "4 + 2,970 × k for evidence from two certificates"
  pub out_room : evidence_out_length n ≤ length out
  -- 9: the bytes of either are a FULL
  pub first_full : is_full (read n a) ≡ true
  pub second_full : is_full (read n b) ≡ true
  -- 10, 11, 12, 14
  pub first : Taken checks n round (read n a)
  pub second : Taken checks n round (read n b)
  -- 15: their values differ
  pub conflict : (certificate_in (read n a)).value ≢ (certificate_in (read n b)).value

module _ (checks : Checks) (n round : ℕ) (keys a b out : List ℕ) where
  abbrev conflict : List Condition
  conflict = NO_CONFLICT_BETWEEN (read n a) (read n b) ∷ []

  making-fit : first_of (making_conditions checks n round keys (read n a) (read n b) out) ≡ 0 → MakingFit checks n round keys a b out
  unfolding making_conditions two_conditions certificate_conditions message_conditions outside_conditions short_out equal_values
  making-fit e =
      let outside = outside_of n round keys _ e in
      let s = first_of-zero 6 _ _ outside.1 in
      let t = message-taken checks n round (is_full (read n a)) (read n a) (certificate_conditions checks n round (read n b) ++ conflict) s.1 in
      let u = message-taken checks n round (is_full (read n b)) (read n b) conflict t.1 in
      record {
        outside = outside.0;
        out_room = ltb-false (length out) (evidence_out_length n) s.0;
        first_full = t.0.0;
        second_full = u.0.0;
        first = t.0.1;
        second = u.0.1;
        conflict = λ d. true≢false (sym (same_refl (certificate_in (read n b)).value) ∙ subst (λ (v : List ℕ). same v (certificate_in (read n b)).value ≡ false) d (first_of-zero 14 _ _ u.1).0);
      }

  fit-making : MakingFit checks n round keys a b out → first_of (making_conditions checks n round keys (read n a) (read n b) out) ≡ 0
  unfolding making_conditions two_conditions certificate_conditions message_conditions outside_conditions short_out equal_values first_of
  fit-making t =
      of_outside n round keys (OUT (evidence_out_length n) out ∷ certificate_conditions checks n round (read n a) ++ certificate_conditions checks n round (read n b) ++ conflict) t.outside
      ∙ rw (le-ltb (length out) (evidence_out_length n) t.out_room)
      (message-passes checks n round (is_full (read n a)) (read n a) (certificate_conditions checks n round (read n b) ++ conflict) t.first_full t.first
      ∙ message-passes checks n round (is_full (read n b)) (read n b) conflict t.second_full t.second
      ∙ rw (same_false (certificate_in (read n a)).value (certificate_in (read n b)).value t.conflict))

  pub making_not_refused : ((making checks n round keys a b out).refusal ≡ 0) ↔ MakingFit checks n round keys a b out
  unfolding making making_by
  making_not_refused = (making-fit, fit-making)

-- a pack that is joined
pub record PackFit (checks : Checks) (n round : ℕ) (bytes : List ℕ) : Type 0 where
  -- 9: the bytes are an EVIDENCE of the form 0x07
  pub is_new : is_new_evidence (read n bytes) ≡ true
  -- 10, 11, 12, 14
  pub message : Taken checks n round (read n bytes)
  -- 15: in each entry the lower value comes first
  pub conflict : not_lower_first (read n bytes) ≡ false

pub record JoiningFit (checks : Checks) (n round : ℕ) (keys a b out : List ℕ) : Type 0 where
  -- 1, 3, 5
  pub outside : Outside n round keys
  -- 7: "The out buffer has 4 + 2,970 × n bytes or more." (document 02, item 5)
  pub out_room : joined_out_length n ≤ length out
  -- 9 to 15
  pub first : PackFit checks n round a
  pub second : PackFit checks n round b

module _ (checks : Checks) (n round : ℕ) (keys a b out : List ℕ) where
  joining-fit : first_of (joining_conditions checks n round keys (read n a) (read n b) out) ≡ 0 → JoiningFit checks n round keys a b out
  unfolding joining_conditions joined_conditions pack_conditions message_conditions outside_conditions short_out
  joining-fit e =
      let outside = outside_of n round keys _ e in
      let s = first_of-zero 6 _ _ outside.1 in
      let t = pack_of_lem checks n round (is_new_evidence (read n a)) (read n a) (joined_conditions checks n round (read n b)) s.1 in
      let u = pack_of_lem checks n round (is_new_evidence (read n b)) (read n b) [] t.3 in
      record {
        outside = outside.0;
        out_room = ltb-false (length out) (joined_out_length n) s.0;
        first = record { is_new = t.0; message = t.1; conflict = t.2 };
        second = record { is_new = u.0; message = u.1; conflict = u.2 };
      }

  fit-joining : JoiningFit checks n round keys a b out → first_of (joining_conditions checks n round keys (read n a) (read n b) out) ≡ 0
  unfolding joining_conditions joined_conditions pack_conditions message_conditions outside_conditions short_out first_of
  fit-joining t =
      of_outside n round keys (OUT (joined_out_length n) out ∷ joined_conditions checks n round (read n a) ++ joined_conditions checks n round (read n b)) t.outside
      ∙ rw (le-ltb (length out) (joined_out_length n) t.out_room)
      (of_pack checks n round (is_new_evidence (read n a)) (read n a) (joined_conditions checks n round (read n b)) t.first.is_new t.first.message t.first.conflict
      ∙ of_pack checks n round (is_new_evidence (read n b)) (read n b) [] t.second.is_new t.second.message t.second.conflict)

  pub joining_not_refused : ((joining checks n round keys a b out).refusal ≡ 0) ↔ JoiningFit checks n round keys a b out
  unfolding joining making_by
  joining_not_refused = (joining-fit, fit-joining)

-- ---- keys and signatures

pub record CheckFit (key message signature : List ℕ) : Type 0 where
  -- 5: one key of 56 bytes, of types allowed
  pub sized_key : length key ≡ key_length
  pub known_tree : known_lms (lms_type_of key) ≡ true
  pub known_chains : known_ots (ots_type_of key) ≡ true
  -- 9: the message isn't too long to check
  pub checkable : length message ≤ message_limit
  -- 14: RFC 8554 accepts it
  pub accepted : valid key message signature ≡ true

module _ (key message signature : List ℕ) where
  check-fit : check_signature key message signature ≡ 0 → CheckFit key message signature
  unfolding check_signature check_conditions wrong_key
  check-fit e =
      let a = first_of-zero 4 _ _ e in
      let b = first_of-zero 8 _ _ a.1 in
      let c = first_of-zero 13 _ _ b.1 in
      let types = both_false (length_isnt 56 key || not (known_lms (lms_type_of key))) (not (known_ots (ots_type_of key))) a.0 in
      let tree = both_false (length_isnt 56 key) (not (known_lms (lms_type_of key))) types.0 in
      record {
        sized_key = length_is 56 key tree.0;
        known_tree = not-false (known_lms (lms_type_of key)) tree.1;
        known_chains = not-false (known_ots (ots_type_of key)) types.1;
        checkable = ltb-false message_limit (length message) b.0;
        accepted = not-false (valid key message signature) c.0;
      }

  fit-check : CheckFit key message signature → check_signature key message signature ≡ 0
  unfolding check_signature check_conditions wrong_key first_of
  fit-check t = rw (eq-eqb (length key) 56 t.sized_key, t.known_tree, t.known_chains, le-ltb message_limit (length message) t.checkable, t.accepted)

  pub check_not_refused : (check_signature key message signature ≡ 0) ↔ CheckFit key message signature
  check_not_refused = (check-fit, fit-check)

pub record MakeKeyFit (seed I tree out : List ℕ) : Type 0 where
  -- 7: "56 for the key maker's public key"
  pub out_room : key_length ≤ length out
  -- 16
  pub sized_seed : length seed ≡ 32
  pub sized_identifier : length I ≡ 16
  pub sized_tree : length tree ≡ tree_length

module _ (seed I tree out : List ℕ) where
  make_key-fit : make_key_refusal seed I tree out ≡ 0 → MakeKeyFit seed I tree out
  unfolding make_key_refusal make_key_conditions short_out
  make_key-fit e =
      let a = first_of-zero 6 _ _ e in
      let b = first_of-zero 15 _ _ a.1 in
      let lengths = both_false (length_isnt 32 seed || length_isnt 16 I) (length_isnt tree_length tree) b.0 in
      let secrets = both_false (length_isnt 32 seed) (length_isnt 16 I) lengths.0 in
      record { out_room = ltb-false (length out) 56 a.0; sized_seed = length_is 32 seed secrets.0; sized_identifier = length_is 16 I secrets.1; sized_tree = length_is tree_length tree lengths.1 }

  fit-make_key : MakeKeyFit seed I tree out → make_key_refusal seed I tree out ≡ 0
  unfolding make_key_refusal make_key_conditions short_out first_of
  fit-make_key t = rw (le-ltb (length out) 56 t.out_room, eq-eqb (length seed) 32 t.sized_seed, eq-eqb (length I) 16 t.sized_identifier, eq-eqb (length tree) tree_length t.sized_tree)

  pub make_key_not_refused : ((make_key seed I tree out).refusal ≡ 0) ↔ MakeKeyFit seed I tree out
  unfolding make_key
  make_key_not_refused = (make_key-fit, fit-make_key)

pub record SignFit (leaf : ℕ) (message seed I C tree out : List ℕ) : Type 0 where
  -- 3: the leaf is 1,023 at most
  pub in_time : leaf ≤ last_round
  -- 7: "1,452 for the signer"
  pub out_room : signature_length ≤ length out
  -- 9: the message isn't too long to sign
  pub signable : length message ≤ message_limit
  -- 16
  pub sized_seed : length seed ≡ 32
  pub sized_identifier : length I ≡ 16
  pub sized_randomizer : length C ≡ 32
  pub sized_tree : length tree ≡ tree_length

module _ (leaf : ℕ) (message seed I C tree out : List ℕ) where
  sign-fit : sign_refusal leaf message seed I C tree out ≡ 0 → SignFit leaf message seed I C tree out
  unfolding sign_refusal sign_conditions short_out
  sign-fit e =
      let a = first_of-zero 2 _ _ e in
      let b = first_of-zero 6 _ _ a.1 in
      let c = first_of-zero 8 _ _ b.1 in
      let d = first_of-zero 15 _ _ c.1 in
      let lengths = both_false (length_isnt 32 seed || length_isnt 16 I || length_isnt 32 C) (length_isnt tree_length tree) d.0 in
      let secrets = both_false (length_isnt 32 seed || length_isnt 16 I) (length_isnt 32 C) lengths.0 in
      let first = both_false (length_isnt 32 seed) (length_isnt 16 I) secrets.0 in
      record {
        in_time = right_round leaf a.0;
        out_room = ltb-false (length out) signature_length b.0;
        signable = ltb-false message_limit (length message) c.0;
        sized_seed = length_is 32 seed first.0;
        sized_identifier = length_is 16 I first.1;
        sized_randomizer = length_is 32 C secrets.1;
        sized_tree = length_is tree_length tree lengths.1;
      }

  fit-sign : SignFit leaf message seed I C tree out → sign_refusal leaf message seed I C tree out ≡ 0
  unfolding sign_refusal sign_conditions short_out first_of
  fit-sign t =
      rw (
        round_right leaf t.in_time,
        le-ltb (length out) signature_length t.out_room,
        le-ltb message_limit (length message) t.signable,
        eq-eqb (length seed) 32 t.sized_seed,
        eq-eqb (length I) 16 t.sized_identifier,
        eq-eqb (length C) 32 t.sized_randomizer,
        eq-eqb (length tree) tree_length t.sized_tree,
      )

  pub sign_not_refused : ((sign leaf message seed I C tree out).refusal ≡ 0) ↔ SignFit leaf message seed I C tree out
  unfolding sign
  sign_not_refused = (sign-fit, fit-sign)

-- ---- the note (document 02, item 2)

pub record WriteNoteFit (r : Record) (out : List ℕ) : Type 0 where
  -- 4: the record is possible
  pub possible : impossible r ≡ false
  -- 7: out has 118 bytes or more
  pub out_room : note_length ≤ length out

module _ (r : Record) (out : List ℕ) where
  write-note-fit : (write_note r out).refusal ≡ 0 → WriteNoteFit r out
  unfolding write_note noting_by write_note_conditions short_out
  write-note-fit e =
      let a = first_of-zero 3 _ _ e in
      record { possible = a.0; out_room = ltb-false (length out) note_length (first_of-zero 6 _ _ a.1).0 }

  pub write-note_not_refused : ((write_note r out).refusal ≡ 0) ↔ WriteNoteFit r out
  write-note_not_refused = (write-note-fit, λ t. ap (λ w. w.refusal) (note-written r out t.possible t.out_room))

pub record ReadNoteFit (note : List ℕ) : Type 0 where
  -- 17: 118 bytes, of which the first is 0x20; not both heard flags, and no flag besides the five
  pub fits : NoteFits note
  -- 4: its record is possible
  pub possible : impossible (note_record note) ≡ false

module _ (note : List ℕ) where
  fit-read-note : ReadNoteFit note → (read_note note).number ≡ 0
  unfolding read_note opened_by read_note_conditions first_of
  fit-read-note t = rw ((note_right note).1 t.fits, t.possible)

  pub read-note_not_refused : ((read_note note).number ≡ 0) ↔ ReadNoteFit note
  read-note_not_refused = (λ e. record { fits = taken-fits note e; possible = taken-possible note e }, fit-read-note)

-- ---- the premises can be met

-- a unit just opened takes a NOTICE, so a step that refuses every message doesn't meet these claims
pub first_notice-taken : (checks : Checks) (n seat round : ℕ) (keys store out : List ℕ) (sender : ℕ) (value : List ℕ) → OpeningFit n seat round keys → store_length n ≤ length store → out_length n ≤ length out
    → sender < n → length value ≡ value_length → (step checks keys (fresh n seat round) store (render (Notice round sender value)) out).refusal ≡ 0
unfolding fresh round_of seats_of entry_seats signed rising is_for_step
first_notice-taken checks n seat round keys store out sender value fit room out_room inside sized =
    message_not_refused checks keys (fresh n seat round) store out (Notice round sender value)
    (record {
      possible = possible checks Any (fresh n seat round) store (fresh-sound checks Any n seat round store fit.range) (fresh-settled n seat round fit.range.some);
      table = fit.table;
      store_room = room;
      out_room = out_room;
    })
    (let e = fit.range.dated in omega arith, sized) refl
    (record { in_round = refl; inside = each_one (λ s. s < n) sender inside; rises = refl; checked = λ s d. absurd (Memᴰ.not-nil d) })
