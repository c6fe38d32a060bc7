-- Refusals of the calls, return by return.
-- Assumes nothing.
use Rattle.std.specs.Prelude.{◌≡◌, Bool, true, false, not, ℕ, eqb, length}
use Rattle.std.proofs.Math.Path.{refl}
use Rattle.std.proofs.Common.{sym, ◌∙◌}
use Rattle.std.proofs.Math.Bool.{and-true}
use mathlib.Core.List.{List, [], ◌∷◌, ◌++◌}
use borrow.Author.Tests.{eqb-true, not-false}
use Rattle.refusal.specs.Refusal.{first_of, numbers, nonzero}
use Rattle.refusal.specs.RefusalLaws.{both_false, first_of-zero, refused_first, refused-later, passed_first}
use Rattle.protocol.specs.Layout.{value_length, signature_length, value_at}
use Rattle.protocol.specs.Values.{is_lower}
use Rattle.protocol.specs.Message.{Message, Submit, read_value, read, read_full, signed}
use Rattle.protocol.specs.Certificate.{certificate_of, certificate_in}
use Rattle.protocol.specs.Refusals.{Checks, Condition, every, said, wrong_lengths, is_full, is_evidence, bad_signature, lower_first, equal_values, SIGNATURE, NO_CONFLICT_IN, NO_CONFLICT_BETWEEN, message_conditions, pack_conditions, certificate_conditions, two_conditions}
use Rattle.protocol.specs.Signatures.{signature_number}
use Rattle.protocol.specs.SignaturesLaws.{signature-row}
use Rattle.protocol.specs.declared.Record.{Record}
use Rattle.forms.specs.Messages.{Formed}
use Rattle.forms.specs.MessagesLaws.{message-nonzero, message-formed}
use Rattle.signatures.specs.Places.{pair_read}
use Rattle.signatures.specs.declared.verdicts.Pair.{Pair}
use Rattle.signatures.specs.Entries.{FullTaken, EvidenceTaken}
use Rattle.signatures.specs.EntriesLaws.{certificate-taken, pack-taken}
use Rattle.validate.specs.Calls.{own_conditions, Conflict}

-- ---- the own submission

module _ (value signature : List ℕ) where
  pub right_lengths : wrong_lengths value signature ≡ false → (length value ≡ value_length) × (length signature ≡ signature_length)
  unfolding wrong_lengths
  right_lengths e =
      let two = both_false (not (eqb (length value) value_length)) (not (eqb (length signature) signature_length)) e in
      (eqb-true (length value) value_length (not-false _ two.0), eqb-true (length signature) signature_length (not-false _ two.1))

module _ (checks : Checks) (r : Record) (value signature : List ℕ) where
  -- its last row, by the verdict on the signature
  pub own_verdict : (number : ℕ) → number ≡ signature_number (checks r.seat value signature)
      → number ≡ first_of (SIGNATURE checks (Submit r.round r.seat value signature) ∷ [])
  unfolding bad_signature signed every
  own_verdict number e = e ∙ rw and-true (signature-row (checks r.seat value signature))

  -- an own submission that isn't refused
  pub own-passed : (number : ℕ) → number ≡ first_of (own_conditions checks r value signature) → number ≡ 0 → (said r ≡ false) × (length value ≡ value_length) × (length signature ≡ signature_length)
  unfolding own_conditions
  own-passed number e z =
      let s = first_of-zero 7 _ _ (sym e ∙ z) in
      let lengths = right_lengths value signature (first_of-zero 8 _ _ s.1).0 in
      (s.0, lengths.0, lengths.1)

-- ---- EVIDENCE

module _ (checks : Checks) (n round : ℕ) (taken : Bool) (m : Message) where
  -- a pack that isn't refused
  pub pack-formed : (number : ℕ) → number ≡ first_of (pack_conditions checks n round taken m) → number ≡ 0 → Formed n round taken m
  unfolding pack_conditions
  pack-formed number e z =
      let first = passed_first (message_conditions checks n round taken m) (NO_CONFLICT_IN m ∷ []) (sym e ∙ z) in
      message-formed n round taken m 0 checks (sym first) refl

  -- its rows: a refusal by 9 to 14, and 15 where they refuse nothing
  pub pack_first : (number : ℕ) → number ≡ first_of (message_conditions checks n round taken m) → (number ≡ 0 → ⊥) → number ≡ first_of (pack_conditions checks n round taken m)
  unfolding pack_conditions
  pack_first number e h = refused_first (message_conditions checks n round taken m) (NO_CONFLICT_IN m ∷ []) number e h

  pub pack-last : 0 ≡ first_of (message_conditions checks n round taken m) → (number : ℕ) → number ≡ first_of (NO_CONFLICT_IN m ∷ []) → number ≡ first_of (pack_conditions checks n round taken m)
  unfolding pack_conditions
  pack-last e number f =
      f ∙ refused-later (message_conditions checks n round taken m) (NO_CONFLICT_IN m ∷ []) 0 e (message-nonzero checks n round taken m) refl

-- the same of bytes, by their 9 to 14 alone
pub evidence_right : (checks : Checks) (n round : ℕ) (bytes : List ℕ) (taken : Bool) → (taken ≡ true → is_evidence (read n bytes) ≡ true)
    → 0 ≡ first_of (message_conditions checks n round taken (read n bytes)) → EvidenceTaken n bytes
evidence_right checks n round bytes taken of e =
    let f = message-formed n round taken (read n bytes) 0 checks e refl in
    pack-taken n round bytes (record { is = of f.is; same = f.same; known = f.known; ordered = f.ordered })

-- a pack's rows, by a test of its command
pub pack-told : (checks : Checks) (n round : ℕ) (m : Message) (taken is : Bool) → taken ≡ is
    → (number : ℕ) → number ≡ first_of (pack_conditions checks n round taken m) → number ≡ first_of (pack_conditions checks n round is m)
pack-told checks n round m taken is t number e = rw (← t) e

-- ---- values

pub pair-order : (bytes : List ℕ) (p : Pair) (lower higher : List ℕ) (b : Bool) → lower ≡ read_value p.lower.value bytes → higher ≡ read_value p.higher.value bytes
    → b ≡ is_lower lower higher → b ≡ lower_first (pair_read bytes p)
unfolding lower_first
pair-order bytes p lower higher b q r e = e ∙ rw (q, r)

module _ (n : ℕ) (bytes : List ℕ) where
  pub certificate-says : FullTaken n bytes → (at : ℕ) → at ≡ value_at → (value : List ℕ) → value ≡ read_value at bytes → value ≡ (certificate_in (read n bytes)).value
  unfolding certificate_in certificate_of read_full
  certificate-says h at f value e = rw (h.says, ← f) e

-- ---- two certificates

module _ (checks : Checks) (n round : ℕ) (m : Message) where
  pub certificate-told : (taken : Bool) → taken ≡ is_full m → (number : ℕ) → number ≡ first_of (message_conditions checks n round taken m)
      → number ≡ first_of (certificate_conditions checks n round m)
  unfolding certificate_conditions
  certificate-told taken t number e = rw (← t) e

  certificate-formed : (number : ℕ) → number ≡ first_of (certificate_conditions checks n round m) → number ≡ 0 → Formed n round (is_full m) m
  unfolding certificate_conditions
  certificate-formed number e z = message-formed n round (is_full m) m number checks e z

  pub certificate-nonzero : nonzero (numbers (certificate_conditions checks n round m)) ≡ true
  unfolding certificate_conditions
  certificate-nonzero = message-nonzero checks n round (is_full m) m

-- one that isn't refused
pub certificate_right : (checks : Checks) (n round : ℕ) (bytes : List ℕ) → 0 ≡ first_of (certificate_conditions checks n round (read n bytes)) → FullTaken n bytes
certificate_right checks n round bytes e = certificate-taken n round bytes (certificate-formed checks n round (read n bytes) 0 e refl)

module _ (checks : Checks) (n round : ℕ) (a b : Message) where
  abbrev of_first : List Condition
  of_first = certificate_conditions checks n round a

  abbrev of_second : List Condition
  of_second = certificate_conditions checks n round b

  abbrev last : List Condition
  last = NO_CONFLICT_BETWEEN a b ∷ []

  abbrev two : ℕ
  two = first_of (two_conditions checks n round a b)

  in_order : first_of (of_first ++ (of_second ++ last)) ≡ two
  unfolding two_conditions certificate_conditions message_conditions
  in_order = refl

  -- the first is refused
  pub two_first : (number : ℕ) → number ≡ first_of of_first → (number ≡ 0 → ⊥) → number ≡ two
  two_first number e h = refused_first of_first (of_second ++ last) number e h ∙ in_order

  module _ (e : 0 ≡ first_of of_first) where
    after-first : first_of (of_second ++ last) ≡ two
    after-first = refused-later of_first (of_second ++ last) 0 e (certificate-nonzero checks n round a) refl ∙ in_order

    -- the first passes, and the second is refused
    pub two-second : (number : ℕ) → number ≡ first_of of_second → (number ≡ 0 → ⊥) → number ≡ two
    two-second number f h = refused_first of_second last number f h ∙ after-first

    -- both pass: the answer is that of the last row
    pub two-last : 0 ≡ first_of of_second → (number : ℕ) → number ≡ first_of last → number ≡ two
    two-last f number g = g ∙ refused-later of_second last 0 f (certificate-nonzero checks n round b) refl ∙ after-first

  pub two-passed : first_of (two_conditions checks n round a b) ≡ 0 → Conflict n round a b
  unfolding first_of
  two-passed z =
      let p = passed_first of_first (of_second ++ last) (in_order ∙ z) in
      let rest = refused-later of_first (of_second ++ last) 0 (sym p) (certificate-nonzero checks n round a) refl ∙ in_order ∙ z in
      let q = passed_first of_second last rest in
      let none = refused-later of_second last 0 (sym q) (certificate-nonzero checks n round b) refl ∙ rest in
      record {
        first = certificate-formed checks n round a 0 (sym p) refl;
        second = certificate-formed checks n round b 0 (sym q) refl;
        apart = (first_of-zero 14 (equal_values a b) [] none).0;
      }
