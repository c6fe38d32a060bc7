-- Rows of a call's own arguments, and two certificates that aren't refused.
-- Assumes nothing.
use Rattle.std.specs.Prelude.{◌≡◌, false, List, [], ◌∷◌, ◌++◌, ℕ}
use Rattle.protocol.specs.Message.{Message, Submit}
use Rattle.protocol.specs.Refusals.{Checks, Condition, is_full, equal_values, OUT, SAID, GARBLED_OWN, SIGNATURE, outside_conditions}
use Rattle.protocol.specs.declared.Record.{Record}
use Rattle.forms.specs.Messages.{Formed}

-- ---- the own submission

-- its rows in submit: 8, 9, 14
unfoldable pub own_conditions : Checks → Record → List ℕ → List ℕ → List Condition
own_conditions checks r value signature = SAID r ∷ GARBLED_OWN value signature ∷ SIGNATURE checks (Submit r.round r.seat value signature) ∷ []

-- ---- two certificates, or two packs

-- the rows before theirs, by the length stated for out: 1, 3, 5, 7
unfoldable pub given_conditions : ℕ → ℕ → List ℕ → ℕ → List ℕ → List Condition
given_conditions n round keys stated out = outside_conditions n round keys ++ OUT stated out ∷ []

-- two certificates of which neither is refused, and whose values differ
pub record Conflict (n round : ℕ) (a b : Message) : Type 0 where
  pub first : Formed n round (is_full a) a
  pub second : Formed n round (is_full b) b
  pub apart : equal_values a b ≡ false
