-- A buffer after a write, and the parts of messages that are written.
-- Assumes nothing.
use Rattle.std.specs.Prelude.{◌≡◌, List, [], ◌∷◌, ◌++◌, ℕ, ◌+◌, length}
use Rattle.octets.specs.Octets.{patch, be}
use Rattle.quorum.specs.Quorum.{In}
use Rattle.protocol.specs.Message.{Entry, Pair}
use Rattle.protocol.specs.Certificate as protocol
use Rattle.store.specs.Sources.{certificate_from}
use Rattle.store.specs.declared.sources.Source.{Source}
use Rattle.store.specs.declared.sources.Certificate.{Certificate}

-- a buffer after `bytes` were written from index `at`: every other byte keeps what it held, and `end` is the place after them
pub record Wrote (at : ℕ) (bytes before after : List ℕ) (end : ℕ) : Type 0 where
  pub ends : end ≡ at + length bytes
  pub wrote : after ≡ patch at bytes before

-- the start of SUBMIT, NOTICE and FULL: "round 2, seat 1, value 32" after the command
abbrev pub head : ℕ → ℕ → ℕ → List ℕ → List ℕ
head command round seat value = command ∷ be 2 round ++ seat ∷ [] ++ value

-- the start of EVIDENCE: "0x07: round 2, count 1" (document 02, item 3)
abbrev pub pack_head : ℕ → ℕ → List ℕ
pack_head round count = 0x07 ∷ be 2 round ++ count ∷ []

-- entries, as they are written
abbrev pub entry : ℕ → List ℕ → Entry
entry seat signature = record { seat = seat; signature = signature }

abbrev pub pair : ℕ → List ℕ → List ℕ → List ℕ → List ℕ → Pair
pair seat lower_value higher_value lower higher = record { seat = seat; lower_value = lower_value; higher_value = higher_value; lower = lower; higher = higher }

-- every seat of a set is the certificate's
abbrev pub Within : ℕ → Source → Type 0
Within mask source = (s : ℕ) → In s mask → In s source.seats

-- the certificate that one to read stands for
abbrev pub certificate_of : ℕ → Certificate → protocol.Certificate
certificate_of n c = certificate_from n c.source c.value c.bytes.now
