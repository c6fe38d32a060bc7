-- `layout::slot_at` meets its contract.
use native.Mathlib.Omega.{arith}
use Rattle.protocol.specs.Layout.{slot_at, length_of_banks, banks_before, banks, slot_length, slot_length_in, signature_length, collected_bank, first_bank, kept_bank}
use Rattle.protocol.specs.LayoutLaws.{slot-fits, collected_bank_lem, first_bank_lem, kept_bank_lem}
use Rattle.layout.specs.Places.{bank_of}
use borrow.Author.Rules.{rules}
use Rattle.layout.proofs.slot_at.Statement.{statement}
use Rattle.layout.proofs.slot_at.Tie as tie

enum_told : tie.Need-enum_told-1
enum_told c = search rules

returns : tie.Need-returns-in-Collected
unfolding slot_at length_of_banks banks_before banks slot_length slot_length_in signature_length bank_of
returns c =
    let fits = slot-fits c.args.n collected_bank c.args.seat collected_bank_lem.0 c.requires.1 in
    rw c.in-Collected.is (omega arith, omega arith)

returns-2 : tie.Need-returns-in-First
unfolding slot_at length_of_banks banks_before banks slot_length slot_length_in signature_length bank_of
returns-2 c =
    let fits = slot-fits c.args.n first_bank c.args.seat first_bank_lem.0 c.requires.1 in
    rw c.in-First.is (omega arith, omega arith)

returns-3 : tie.Need-returns-in-Kept
unfolding slot_at length_of_banks banks_before banks slot_length slot_length_in signature_length bank_of
returns-3 c =
    let fits = slot-fits c.args.n kept_bank c.args.seat kept_bank_lem.0 c.requires.1 in
    rw c.in-Kept.is (omega arith, omega arith)

pub slot_at_spec : {M : Type 1} → statement M
slot_at_spec =
    tie.close
    (tie.spec
    (λ c. search rules)
    enum_told
    (λ c. search rules)
    (λ c. search rules)
    (λ c. search rules)
    (λ c. search rules)
    (λ c. search rules)
    (λ c. search rules)
    (λ c. search rules)
    returns
    returns-2
    returns-3)
