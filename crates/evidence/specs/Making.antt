-- The lower certificate of two: the call's number, and the choice of one of two things.
-- Assumes nothing.
use Rattle.std.specs.Prelude.{cond, List, ℕ}
use Rattle.refusal.specs.Refusal.{first_of}
use Rattle.protocol.specs.Values.{is_lower}
use Rattle.protocol.specs.Message.{read}
use Rattle.protocol.specs.Certificate.{certificate_in}
use Rattle.protocol.specs.Refusals.{Checks, lower_conditions}

-- the number of the call
abbrev pub lower_number : Checks → ℕ → ℕ → List ℕ → List ℕ → List ℕ → ℕ
lower_number checks n round keys a b = first_of (lower_conditions checks n round keys (read n a) (read n b))

-- of two things, that of the certificate with the lower value
unfoldable pub lower_first : {A : Type 0} → ℕ → List ℕ → List ℕ → A → A → A
lower_first n a b x y = cond (is_lower (certificate_in (read n a)).value (certificate_in (read n b)).value) x y
