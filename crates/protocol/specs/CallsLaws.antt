-- A call that writes one message, return by return: evidence from two certificates, and two packs joined.
-- Assumes nothing.
use Rattle.std.specs.Prelude.{◌≡◌, refl, true, List, ◌++◌, ℕ, length}
use Rattle.std.proofs.Math.Path.{sym}
use Rattle.std.proofs.Common.{ap, ◌∙◌}
use Rattle.octets.specs.Octets.{patch}
use Rattle.octets.specs.StringsLaws.{patch-nothing}
use Rattle.refusal.specs.Refusal.{first_of, unrefused, numbers, nonzero}
use Rattle.refusal.specs.RefusalLaws.{refused-old, refused_first, refused-later}
use Rattle.protocol.specs.Message.{Message, render}
use Rattle.protocol.specs.Refusals.{Condition}
use Rattle.protocol.specs.Calls.{out_after, Making, making_by, made}
use Rattle.protocol.specs.declared.Written.{Written}

abbrev answered : ℕ → ℕ → Written
answered number written = record { number = number; written = written }

-- answer of a call with this result, and `out` after it
abbrev pub Gives : Making → List ℕ → ℕ → ℕ → List ℕ → Type 0
Gives result out number written after = (answered number written ≡ made result) × (after ≡ out_after result.written out)

-- the rows of the arguments besides the messages, those of the messages, and the message that is written
module _ (given later : List Condition) (some : nonzero (numbers given) ≡ true) (m : Message) (out : List ℕ) where
  abbrev result : Making
  result = making_by (first_of (given ++ later)) m

  -- a refusal writes nothing
  by_number : {number : ℕ} → number ≡ first_of (given ++ later) → (number ≡ 0 → ⊥) → Gives result out number 0 out
  unfolding made making_by out_after
  by_number e h = rw (← e, refused-old) (refl, sym (patch-nothing out))

  module _ {first : ℕ} (told : first ≡ first_of given) where
    pub given-refused : (first ≡ 0 → ⊥) → Gives result out first 0 out
    given-refused h = by_number (refused_first given later first told h) h

    module _ (none : first ≡ 0) {number : ℕ} (e : number ≡ first_of later) where
      whole : number ≡ first_of (given ++ later)
      whole = e ∙ refused-later given later first told some none

      pub later-refused : (number ≡ 0 → ⊥) → Gives result out number 0 out
      later-refused h = by_number whole h

      pub written : number ≡ 0 → {after : List ℕ} {end : ℕ} → end ≡ length (render m) → after ≡ patch 0 (render m) out → Gives result out 0 end after
      unfolding made making_by unrefused out_after
      written z ends wrote = rw (sym whole ∙ z) (ap (answered 0) ends, wrote)
