-- The documents' figures for the lengths of `Layout`.
use Rattle.std.specs.Prelude.{◌≡◌, refl, ℕ, ◌+◌, ◌*◌}
use Rattle.std.proofs.Common.{arith}
use Rattle.quorum.specs.Quorum.{k}
use Rattle.protocol.specs.Layout.{signature_length, submit_length, notice_length, full_entry_length, full_entry_at, full_length, evidence_entry_length, evidence_entry_at, evidence_length, old_evidence_entry_length, old_evidence_entry_at, old_evidence_length, banks, length_of_banks, store_length, out_length, evidence_out_length, joined_out_length, note_length}

-- SUBMIT: "In all 1,488."
pub submit_figure : submit_length ≡ 1488
unfolding submit_length signature_length
submit_figure = refl

-- NOTICE: "In all 36."
pub notice_figure : notice_length ≡ 36
unfolding notice_length
notice_figure = refl

-- FULL: "In all 37 + 1,454 × k."
pub full_figure : (n : ℕ) → full_length n ≡ 37 + 1454 * k n
unfolding full_length full_entry_at full_entry_length signature_length
full_figure n = refl

-- EVIDENCE (document 02, item 3): 4 + 2,970 × count
pub evidence_figure : (count : ℕ) → evidence_length count ≡ 4 + 2970 * count
unfolding evidence_length evidence_entry_at evidence_entry_length signature_length
evidence_figure count = refl

-- the old EVIDENCE: "In all 68 + 2,906 × count."
pub old-evidence_figure : (count : ℕ) → old_evidence_length count ≡ 68 + 2906 * count
unfolding old_evidence_length old_evidence_entry_at old_evidence_entry_length signature_length
old-evidence_figure count = refl

-- "the store grows to 4,388 × n bytes" (document 02, item 1)
pub store_figure : (n : ℕ) → store_length n ≡ 4388 * n
unfolding store_length length_of_banks banks signature_length
store_figure n = refl

-- "The out buffer becomes 1,565 + 4,424 × k" (document 02, item 3), or more, "for every submit and step"
pub out_figure : (n : ℕ) → out_length n ≡ 1565 + 4424 * k n
unfolding out_length submit_length notice_length full_length full_entry_at full_entry_length evidence_length evidence_entry_at evidence_entry_length signature_length
out_figure n = omega arith

-- "and 4 + 2,970 × k for evidence from two certificates" (document 02, item 3)
pub evidence-out_figure : (n : ℕ) → evidence_out_length n ≡ 4 + 2970 * k n
unfolding evidence_out_length
evidence-out_figure n = evidence_figure (k n)

-- "The out buffer has 4 + 2,970 × n bytes or more." (document 02, item 5)
pub joined-out_figure : (n : ℕ) → joined_out_length n ≡ 4 + 2970 * n
unfolding joined_out_length
joined-out_figure n = evidence_figure n

-- the note: "That is 118 bytes" (document 02, item 2)
pub note_figure : note_length ≡ 118
unfolding note_length
note_figure = refl
