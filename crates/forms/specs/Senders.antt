-- The seat that sends a message.
-- Assumes nothing.
use Rattle.std.specs.Prelude.{List, [], ◌∷◌, ℕ}
use Rattle.protocol.specs.Message.{Message, Submit, Notice, Full, Evidence, Garbled}

-- the seat that sends a message, where it names one
unfoldable pub senders_of : Message → List ℕ
senders_of (Submit round seat value signature) = seat ∷ []
senders_of (Notice round seat value) = seat ∷ []
senders_of (Full round sender value entries) = sender ∷ []
senders_of (Evidence round form entries) = []
senders_of Garbled = []
