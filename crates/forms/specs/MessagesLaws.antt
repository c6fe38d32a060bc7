-- The kinds that calls take, and a message's 9 to 14, return by return.
-- Assumes nothing.
use Rattle.std.specs.Prelude.{◌≡◌, Bool, true, false, [], ◌∷◌, ℕ}
use Rattle.std.proofs.Math.Path.{refl, sym}
use Rattle.std.proofs.Common.{◌∙◌}
use Rattle.std.proofs.lemmas.Bool.{false≢true}
use borrow.Author.Tests.{not-false}
use Rattle.refusal.specs.Refusal.{first_of, numbers, nonzero}
use Rattle.refusal.specs.RefusalLaws.{first_of-zero, refused_first, refused-later, passed_first}
use Rattle.protocol.specs.Message.{ValuesOnce, ValuesEach, Message, Submit, Notice, Full, Evidence, Garbled}
use Rattle.protocol.specs.Refusals.{Checks, is_for_step, is_full, is_evidence, is_new_evidence, SIGNATURE, message_conditions}
use Rattle.wire.specs.Reading.{kind_of}
use Rattle.wire.specs.declared.read.Kind.{Kind}
use Rattle.wire.specs.declared.read.Kind.TheVariants as kind
use Rattle.forms.specs.Messages.{form_conditions, Formed}

-- ---- the kinds that a call takes

-- "A step takes 0x01 to 0x03"
abbrev pub for_step_kind : Kind → Bool
for_step_kind kind.Submit = true
for_step_kind kind.Notice = true
for_step_kind kind.Full = true
for_step_kind kind.OldEvidence = false
for_step_kind kind.Evidence = false
for_step_kind kind.Garbled = false

pub kind-for_step : (m : Message) → for_step_kind (kind_of m) ≡ is_for_step m
unfolding kind_of is_for_step
kind-for_step (Submit round seat value signature) = refl
kind-for_step (Notice round seat value) = refl
kind-for_step (Full round sender value entries) = refl
kind-for_step (Evidence round (ValuesOnce values) entries) = refl
kind-for_step (Evidence round ValuesEach entries) = refl
kind-for_step Garbled = refl

-- a certificate is "0x03 FULL"
abbrev pub certificate_kind : Kind → Bool
certificate_kind kind.Submit = false
certificate_kind kind.Notice = false
certificate_kind kind.Full = true
certificate_kind kind.OldEvidence = false
certificate_kind kind.Evidence = false
certificate_kind kind.Garbled = false

pub kind-certificate : (m : Message) → certificate_kind (kind_of m) ≡ is_full m
unfolding kind_of is_full
kind-certificate (Submit round seat value signature) = refl
kind-certificate (Notice round seat value) = refl
kind-certificate (Full round sender value entries) = refl
kind-certificate (Evidence round (ValuesOnce values) entries) = refl
kind-certificate (Evidence round ValuesEach entries) = refl
kind-certificate Garbled = refl

-- "EVIDENCE goes to its own check": 0x07, and "The old 0x05 is still accepted by the check." (document 02, item 3). 0x06 starts no message.
abbrev pub evidence_kind : Kind → Bool
evidence_kind kind.Submit = false
evidence_kind kind.Notice = false
evidence_kind kind.Full = false
evidence_kind kind.OldEvidence = true
evidence_kind kind.Evidence = true
evidence_kind kind.Garbled = false

pub kind-evidence : (m : Message) → evidence_kind (kind_of m) ≡ is_evidence m
unfolding kind_of is_evidence
kind-evidence (Submit round seat value signature) = refl
kind-evidence (Notice round seat value) = refl
kind-evidence (Full round sender value entries) = refl
kind-evidence (Evidence round (ValuesOnce values) entries) = refl
kind-evidence (Evidence round ValuesEach entries) = refl
kind-evidence Garbled = refl

-- "a 0x05 pack is 9 here" (document 02, item 5)
abbrev pub new_evidence_kind : Kind → Bool
new_evidence_kind kind.Submit = false
new_evidence_kind kind.Notice = false
new_evidence_kind kind.Full = false
new_evidence_kind kind.OldEvidence = false
new_evidence_kind kind.Evidence = true
new_evidence_kind kind.Garbled = false

pub kind-new_evidence : (m : Message) → new_evidence_kind (kind_of m) ≡ is_new_evidence m
unfolding kind_of is_new_evidence
kind-new_evidence (Submit round seat value signature) = refl
kind-new_evidence (Notice round seat value) = refl
kind-new_evidence (Full round sender value entries) = refl
kind-new_evidence (Evidence round (ValuesOnce values) entries) = refl
kind-new_evidence (Evidence round ValuesEach entries) = refl
kind-new_evidence Garbled = refl

pub full-kind : (m : Message) → is_full m ≡ true → kind.Full ≡ kind_of m
unfolding kind_of is_full
full-kind (Submit round seat value signature) e = absurd (false≢true e)
full-kind (Notice round seat value) e = absurd (false≢true e)
full-kind (Full round sender value entries) e = refl
full-kind (Evidence round form entries) e = absurd (false≢true e)
full-kind Garbled e = absurd (false≢true e)

-- ---- the form of a message, 9 to 12, and 9 to 14, which begin with it

pub message-nonzero : (checks : Checks) (n round : ℕ) (taken : Bool) (m : Message) → nonzero (numbers (message_conditions checks n round taken m)) ≡ true
unfolding message_conditions nonzero numbers
message-nonzero checks n round taken m = refl

module _ (n round : ℕ) (taken : Bool) (m : Message) (number : ℕ) where
  module _ (e : number ≡ first_of (form_conditions n round taken m)) where
    pub form-passed : number ≡ 0 → Formed n round taken m
    unfolding form_conditions
    form-passed z =
        let a = first_of-zero 8 _ _ (sym e ∙ z) in
        let b = first_of-zero 9 _ _ a.1 in
        let c = first_of-zero 10 _ _ b.1 in
        let d = first_of-zero 11 _ _ c.1 in
        record { is = not-false taken a.0; same = b.0; known = c.0; ordered = d.0 }

    module _ (checks : Checks) where
      pub form-refused : (number ≡ 0 → ⊥) → number ≡ first_of (message_conditions checks n round taken m)
      unfolding message_conditions form_conditions
      form-refused h = refused_first (form_conditions n round taken m) (SIGNATURE checks m ∷ []) number e h

      pub form-signed : number ≡ 0 → (v : ℕ) → v ≡ first_of (SIGNATURE checks m ∷ []) → v ≡ first_of (message_conditions checks n round taken m)
      unfolding message_conditions form_conditions nonzero numbers
      form-signed z v f = f ∙ refused-later (form_conditions n round taken m) (SIGNATURE checks m ∷ []) number e refl z

  -- a message that isn't refused
  pub message-formed : (checks : Checks) → number ≡ first_of (message_conditions checks n round taken m) → number ≡ 0 → Formed n round taken m
  unfolding message_conditions form_conditions
  message-formed checks f z =
      let form = form_conditions n round taken m in
      form-passed (z ∙ sym (passed_first form (SIGNATURE checks m ∷ []) (sym f ∙ z))) z
