-- The form of a message: 9 to 12.
-- Assumes nothing.
use Rattle.std.specs.Prelude.{◌≡◌, Bool, true, false, List, [], ◌∷◌, ℕ}
use Rattle.protocol.specs.Message.{Message}
use Rattle.protocol.specs.Refusals.{Condition, other_round, stranger, disorder, GARBLED, OTHER_ROUND, STRANGER, DISORDER}

-- 9 to 12, without the signatures
unfoldable pub form_conditions : ℕ → ℕ → Bool → Message → List Condition
form_conditions n round taken m = GARBLED taken ∷ OTHER_ROUND round m ∷ STRANGER n m ∷ DISORDER m ∷ []

-- a message that a call takes, of its round, with no stranger and in order
pub record Formed (n round : ℕ) (taken : Bool) (m : Message) : Type 0 where
  pub is : taken ≡ true
  pub same : other_round round m ≡ false
  pub known : stranger n m ≡ false
  pub ordered : disorder m ≡ false
