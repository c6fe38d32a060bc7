-- The returns of a joining, over plain values.
-- Assumes nothing.
use Rattle.std.specs.Prelude.{◌≡◌, true, List, ◌++◌, ℕ}
use Rattle.std.proofs.Math.Path.{refl}
use Rattle.std.proofs.Common.{arith}
use Rattle.refusal.specs.Refusal.{first_of, numbers, nonzero}
use Rattle.protocol.specs.Layout.{joined_out_length}
use Rattle.protocol.specs.Message.{Message, render, read}
use Rattle.protocol.specs.Joining.{joined_of}
use Rattle.protocol.specs.Refusals.{Checks, Condition, outside_conditions, joined_conditions, joining_conditions}
use Rattle.protocol.specs.Signatures.{checks}
use Rattle.protocol.specs.Calls.{making_by, joining}
use Rattle.protocol.specs.CallsLaws.{Gives, given-refused, later-refused, written}
use Rattle.wire_write.specs.Writing.{Wrote}
use Rattle.validate.specs.Calls.{given_conditions}
use Rattle.validate.specs.GivenLaws.{given-nonzero}

module _ (n round : ℕ) (keys a b out : List ℕ) where
  abbrev check : Checks
  check = checks keys round

  -- the rows of n, round, key table and out, and those of the packs
  abbrev given : List Condition
  given = given_conditions n round keys (joined_out_length n) out

  abbrev packs : List Condition
  packs = joined_conditions check n round (read n a) ++ joined_conditions check n round (read n b)

  abbrev joined : Message
  joined = joined_of n round (read n a) (read n b)

  -- answer of the call, and `out` after it
  abbrev Joins : ℕ → ℕ → List ℕ → Type 0
  Joins = Gives (joining check n round keys a b out) out

  some : nonzero (numbers given) ≡ true
  some = given-nonzero n round keys (joined_out_length n) out

  result : joining check n round keys a b out ≡ making_by (first_of (given ++ packs)) joined
  unfolding joining joining_conditions given_conditions outside_conditions
  result = refl

  module _ {first : ℕ} (told : first ≡ first_of given) where
    pub joining-given-refused : (first ≡ 0 → ⊥) → Joins first 0 out
    joining-given-refused h = rw result (given-refused given packs some joined out told h)

    module _ (none : first ≡ 0) {number : ℕ} (e : number ≡ first_of packs) where
      pub joining-refused : (number ≡ 0 → ⊥) → Joins number 0 out
      joining-refused h = rw result (later-refused given packs some joined out told none e h)

      pub joining-done : number ≡ 0 → {after : List ℕ} {end : ℕ} → Wrote 0 (render joined) out after end → Joins 0 end after
      joining-done z w = rw result (written given packs some joined out told none e z (omega (arith, w.ends)) w.wrote)
