-- The returns of the evidence check, over plain values.
-- Assumes nothing.
use Rattle.std.specs.Prelude.{◌≡◌, List, ◌++◌, ℕ}
use Rattle.std.proofs.Common.{sym, ◌∙◌}
use Rattle.refusal.specs.Refusal.{first_of, unrefused}
use Rattle.refusal.specs.RefusalLaws.{refused-old, refused_first}
use Rattle.protocol.specs.Message.{Message, read, entry_seats}
use Rattle.protocol.specs.Certificate.{set_of}
use Rattle.protocol.specs.Refusals.{Condition, is_evidence, pack_conditions, evidence_conditions}
use Rattle.protocol.specs.Calls.{checked_by, evidence_check}
use Rattle.protocol.specs.declared.Checked.{Checked}
use Rattle.evidence.specs.PassedLaws.{Call, check, outside, after_outside}

abbrev answered : ℕ → ℕ → Checked
answered number mask = record { number = number; mask = mask }

module _ (c : Call) (bytes : List ℕ) where
  abbrev m : Message
  m = read c.n bytes

  abbrev pack : List Condition
  pack = pack_conditions (check c) c.n c.round (is_evidence m) m

  -- answer of the call
  abbrev Answers : ℕ → ℕ → Type 0
  Answers number mask = answered number mask ≡ evidence_check (check c) c.n c.round c.keys bytes

  -- a refusal names no seat
  refused : {number : ℕ} → number ≡ first_of (outside c ++ pack) → (number ≡ 0 → ⊥) → Answers number 0
  unfolding evidence_check checked_by evidence_conditions
  refused e h = rw (← e, refused-old)

  -- refusal of n, round and key table
  pub outside-refused : {number : ℕ} → number ≡ first_of (outside c) → (number ≡ 0 → ⊥) → Answers number 0
  outside-refused {number} e h = refused (refused_first (outside c) pack number e h) h

-- refusal of the message, and no refusal
module _ (c : Call) (clear : 0 ≡ first_of (outside c)) (bytes : List ℕ) {number : ℕ} (e : number ≡ first_of (pack c bytes)) where
  later : number ≡ first_of (outside c ++ pack c bytes)
  later = e ∙ after_outside c clear (pack c bytes)

  pub pack-refused : (number ≡ 0 → ⊥) → Answers c bytes number 0
  pack-refused h = refused c bytes later h

  pub accepted : number ≡ 0 → {mask : ℕ} → mask ≡ set_of (entry_seats (m c bytes)) → Answers c bytes 0 mask
  unfolding evidence_check checked_by evidence_conditions unrefused
  accepted z set = rw (sym later ∙ z, set)
