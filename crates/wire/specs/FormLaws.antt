-- The tests for FULL and EVIDENCE, return by return.
-- Assumes nothing.
use Rattle.std.specs.Prelude.{◌≡◌, Bool, true, false, not, ◌&&◌, List, ◌≢◌, ℕ, ◌+◌, ◌≤◌, ◌<◌, ◌^◌, eqb, length}
use Rattle.std.proofs.Math.Path.{sym}
use Rattle.std.proofs.Common.{◌∙◌, arith}
use Rattle.std.proofs.Math.Bool.{not-eq-not, and-false, and-eq-true_iff}
use Rattle.std.proofs.lemmas.Bool.{false≢true}
use Rattle.std.proofs.Math.Decide.{ℕ_discrete}
use borrow.Author.Tests.{le-leb, eq-eqb, ne_eqb, eqb-true, not-false}
use Rattle.quorum.specs.Quorum.{k}
use Rattle.protocol.specs.Layout.{signature_length, full_count_at, full_entry_length, full_length, evidence_count_at, evidence_entry_length, old_evidence_count_at, old_evidence_entry_length}
use Rattle.protocol.specs.Entries.{place_of, entry_commands}
use Rattle.protocol.specs.Message.{PackForm, ValuesOnce, ValuesEach, pack_command, pair_command, byte_at, full_form, evidence_form, pack_in, form_of, count_of, fits_full, fits_evidence}
use Rattle.protocol.specs.MessageLaws.{EvidenceFits, evidence-fits, pack-old, pack-new}
use Rattle.layout.specs.Places.{full, evidence, old_evidence}
use Rattle.layout.specs.declared.Entries.{Entries}
use Rattle.wire.specs.Reading.{command_place, commands_are, pack_entries}

-- ---- FULL

module _ (n : ℕ) (bytes : List ℕ) where
  module _ (size : ℕ) (e : size ≡ full_length n) (begun : Bool) (b : begun ≡ (eqb (length bytes) size && eqb (byte_at bytes 0) 0x03)) where
    pub full-start : begun ≡ false → false ≡ fits_full n bytes
    unfolding fits_full
    full-start h = let fails = rw e at (sym b ∙ h) in sym (rw fails)

    pub full-begun : begun ≡ true → (length bytes ≡ full_length n) × (byte_at bytes 0 ≡ 0x03)
    full-begun h =
        let both = (and-eq-true_iff (eqb (length bytes) size) (eqb (byte_at bytes 0) 0x03)).0 (sym b ∙ h) in
        (eqb-true (length bytes) size both.0 ∙ e, eqb-true (byte_at bytes 0) 0x03 both.1)

  pub full-count : (byte_at bytes full_count_at ≡ k n → ⊥) → false ≡ fits_full n bytes
  unfolding fits_full
  full-count h = sym (rw (ne_eqb (byte_at bytes full_count_at) (k n) h, and-false))

  pub full-entries : (r : Bool) → length bytes ≡ full_length n → byte_at bytes 0 ≡ 0x03 → byte_at bytes full_count_at ≡ k n
      → r ≡ commands_are 0x04 (full (k n)) bytes → r ≡ fits_full n bytes
  unfolding fits_full entry_commands full_form place_of full_entry_length
  full-entries r l z e h =
      h ∙ sym (rw (
        eq-eqb (length bytes) (full_length n) l,
        eq-eqb (byte_at bytes 0) 0x03 z,
        eq-eqb (byte_at bytes full_count_at) (k n) e,
      ))

-- ---- EVIDENCE

-- the command that the code reads
module _ (bytes : List ℕ) (command : ℕ) (e : command ≡ byte_at bytes 0) where
  -- its entries
  module _ (count at : ℕ) (q : count ≡ byte_at bytes at) (few : count < 256) (found : Entries) where
    pub entries-old : command ≡ 0x05 → at ≡ old_evidence_count_at → found ≡ old_evidence count → (found ≡ pack_entries bytes) × (command_place found found.count < 2 ^ 32)
    unfolding old_evidence_entry_length signature_length
    entries-old h p g = rw (g, pack-old bytes (sym e ∙ h), ← p) (rw q, omega arith)

    pub entries-new : command ≢ 0x05 → at ≡ evidence_count_at → found ≡ evidence count → (found ≡ pack_entries bytes) × (command_place found found.count < 2 ^ 32)
    unfolding evidence_entry_length signature_length
    entries-new h p g = rw (g, pack-new bytes (λ o. h (e ∙ o)), ← p) (rw q, omega arith)

  -- it is one of the two, and that of the entries is the next
  pub commands-told : (not (eqb command 0x05) && not (eqb command 0x07)) ≡ false → (byte_at bytes 0 ≡ pack_command (pack_in bytes)) × (command + 1 ≡ pair_command (pack_in bytes))
  commands-told h = go (ℕ_discrete command 0x05)
    where
      go : Dec (command ≡ 0x05) → (byte_at bytes 0 ≡ pack_command (pack_in bytes)) × (command + 1 ≡ pair_command (pack_in bytes))
      go (yes old) = rw (pack-old bytes (sym e ∙ old)) (sym e ∙ old, omega arith)
      go (no other) =
          let new : command ≡ 0x07 = eqb-true command 0x07 (not-false (eqb command 0x07) (rw (ne_eqb command 0x05 other) at h)) in
          rw (pack-new bytes (λ old. other (e ∙ old))) (sym e ∙ new, omega arith)

module _ (n : ℕ) (bytes : List ℕ) where
  -- one of the tests fails
  pub evidence_not : (EvidenceFits n bytes → ⊥) → false ≡ fits_evidence n bytes
  evidence_not h = sym ((not-eq-not {b = false}).0 (λ f. h (evidence-fits n bytes f)))

  pub command_not : (command : ℕ) → command ≡ byte_at bytes 0 → (not (eqb command 0x05) && not (eqb command 0x07)) ≡ true → false ≡ fits_evidence n bytes
  command_not command e h = evidence_not (λ f. go (pack_in bytes) (e ∙ f.code))
    where
      go : (form : PackForm) → command ≡ pack_command form → ⊥
      go (ValuesOnce values) q = false≢true (rw q at h)
      go ValuesEach q = false≢true (rw q at h)

  -- all hold but perhaps that of the entries' commands
  pub evidence-entries : (r : Bool) → byte_at bytes 0 ≡ pack_command (pack_in bytes) → 1 ≤ count_of bytes → count_of bytes ≤ n → length bytes ≡ place_of (form_of bytes) (count_of bytes)
      → r ≡ commands_are (pair_command (pack_in bytes)) (pack_entries bytes) bytes → r ≡ fits_evidence n bytes
  unfolding fits_evidence entry_commands evidence_form place_of
  evidence-entries r z a b l h =
      h ∙ sym (rw (
        eq-eqb (byte_at bytes 0) (pack_command (pack_in bytes)) z,
        le-leb 1 (count_of bytes) a,
        le-leb (count_of bytes) n b,
        eq-eqb (length bytes) (place_of (form_of bytes) (count_of bytes)) l,
      ))
