-- `layout::store_length` meets its contract.
use native.Mathlib.Omega.{arith}
use Rattle.protocol.specs.Layout.{store_length, length_of_banks, banks, signature_length}
use borrow.Author.Rules.{rules}
use Rattle.layout.proofs.store_length.Statement.{statement}
use Rattle.layout.proofs.store_length.Tie as tie

returns : tie.Need-returns
unfolding store_length length_of_banks banks signature_length
returns c = omega arith

pub store_length_spec : {M : Type 1} → statement M
store_length_spec = tie.close (tie.spec (λ c. search rules) returns)
