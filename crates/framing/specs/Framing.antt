-- The end of the first message in a buffer (document 01, "Commands on the air": "Each starts with a one-byte command, then
-- operands of fixed widths").
-- Assumes nothing.
use Rattle.std.specs.Prelude.{ℕ, Bool, true, false, cond, ◌||◌, List, ltb, length, take}
use Rattle.protocol.specs.Message.{Message, Submit, Notice, Full, Evidence, Garbled, read}
use Rattle.protocol.specs.Record.{wrong_size}
use Rattle.reading.specs.Reading.{frame_length}
use Rattle.wire.specs.declared.read.Kind.{Kind}
use Rattle.wire.specs.declared.read.Kind.TheVariants as kind

-- bytes that are no message
unfoldable pub is_garbled : Message → Bool
is_garbled (Submit round seat value signature) = false
is_garbled (Notice round seat value) = false
is_garbled (Full round sender value entries) = false
is_garbled (Evidence round form entries) = false
is_garbled Garbled = true

-- the same of a kind of message
abbrev pub no_message : Kind → Bool
no_message kind.Submit = false
no_message kind.Notice = false
no_message kind.Full = false
no_message kind.OldEvidence = false
no_message kind.Evidence = false
no_message kind.Garbled = true

-- the bytes of the first message, by its command and count
unfoldable pub first_frame : ℕ → List ℕ → List ℕ
first_frame n bytes = take (frame_length n bytes) bytes

-- the length of the first message in a buffer; 0 where no message of a fleet of n seats stands there whole
unfoldable pub message_length : ℕ → List ℕ → ℕ
message_length n bytes =
    cond (wrong_size n || ltb (length bytes) (frame_length n bytes) || is_garbled (read n (first_frame n bytes))) 0 (frame_length n bytes)
