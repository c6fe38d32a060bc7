-- The messages that a call in a list writes.
-- Assumes nothing.
use Rattle.std.specs.Prelude.{List, [], ◌∷◌, ◌++◌, ℕ}
use Rattle.refusal.specs.Refusal.{first_of, unrefused}
use Rattle.protocol.specs.Message.{Message, read}
use Rattle.protocol.specs.Refusals.{submit_conditions, step_conditions}
use Rattle.protocol.specs.Step.{State, submitted, stepped}
use Rattle.protocol.specs.Calls.{start}
use Rattle.protocol.specs.declared.Record.{Record}
use Rattle.round.specs.Round.{Call, BySubmit, ByStep, ByThinEntry, Setting, Called}

-- refusal number of a call, and its state at the end where nothing is refused
unfoldable pub refusal_of : Setting → Call → Record → List ℕ → ℕ
refusal_of S (BySubmit value signature out) r store = first_of (submit_conditions S.checks S.keys r store value signature out)
refusal_of S (ByStep bytes out) r store = first_of (step_conditions S.checks S.keys r store (read r.n bytes) out)
refusal_of S (ByThinEntry bytes out) r store = first_of (step_conditions S.checks S.keys r store (read r.n bytes) out)

unfoldable pub came_to : Call → Record → List ℕ → State
came_to (BySubmit value signature out) r store = submitted value signature (start r store)
came_to (ByStep bytes out) r store = stepped (read r.n bytes) (start r store)
came_to (ByThinEntry bytes out) r store = stepped (read r.n bytes) (start r store)

-- the messages that a call writes
abbrev pub messages : Setting → Called → List Message
messages S t = unrefused (refusal_of S t.given t.unit t.store) (came_to t.given t.unit t.store).written []

-- the messages that the calls of a list write
unfoldable pub all_messages : Setting → List Called → List Message
all_messages S [] = []
all_messages S (t ∷ ts) = messages S t ++ all_messages S ts
