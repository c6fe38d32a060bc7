-- Lists of entries and banks, as the code has them.
-- Assumes nothing.
use Rattle.std.specs.Prelude.{ℕ}
use Rattle.protocol.specs.Layout.{full_start, full_entry_length, evidence_start, evidence_entry_length, old_evidence_start, old_evidence_entry_length, collected_bank, first_bank, kept_bank}
use Rattle.layout.specs.declared.Entries.{Entries}
use Rattle.layout.specs.declared.Bank.{Bank}
use Rattle.layout.specs.declared.Bank.TheVariants as bank

-- the entries of FULL, of EVIDENCE and of the old EVIDENCE
abbrev pub full : ℕ → Entries
full count = record { start = full_start; length = full_entry_length; count = count }

abbrev pub evidence : ℕ → Entries
evidence count = record { start = evidence_start; length = evidence_entry_length; count = count }

abbrev pub old_evidence : ℕ → Entries
old_evidence count = record { start = old_evidence_start; length = old_evidence_entry_length; count = count }

-- the place of a bank in the list of banks
unfoldable pub bank_of : Bank → ℕ
bank_of bank.Collected = collected_bank
bank_of bank.First = first_bank
bank_of bank.Kept = kept_bank
