-- `layout::kept_value_at` meets its contract.
use native.Mathlib.Omega.{arith}
use Rattle.protocol.specs.Layout.{slot_at, length_of_banks, banks_before, banks, slot_length, slot_length_in, signature_length, kept_value_bank}
use Rattle.protocol.specs.LayoutLaws.{slot-fits, kept-value_bank}
use borrow.Author.Rules.{rules}
use Rattle.layout.proofs.kept_value_at.Statement.{statement}
use Rattle.layout.proofs.kept_value_at.Tie as tie

returns : tie.Need-returns
unfolding slot_at length_of_banks banks_before banks slot_length slot_length_in signature_length
returns c =
    let fits = slot-fits c.args.n kept_value_bank c.args.seat kept-value_bank.0 c.requires.1 in
    (omega arith, omega arith)

pub kept_value_at_spec : {M : Type 1} → statement M
kept_value_at_spec = tie.close (tie.spec (λ c. search rules) (λ c. search rules) (λ c. search rules) returns)
