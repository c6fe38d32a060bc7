-- The answers that are enums, in document 01's numbers and values ("Where an answer is an enum, a definition gives this paper's number and
-- values for each case of the enum").
-- Assumes nothing.
use Rattle.std.specs.Prelude.{◌≡◌, Option, Some, None, cond, ◌&&◌, List, [], ◌∷◌, ℕ, ◌+◌, leb, ltb, length}
use Rattle.protocol.specs.Layout.{entry_held_at, full_count_at, full_entry_at}
use Rattle.protocol.specs.Entries.{read_entry}
use Rattle.protocol.specs.Message.{Message, Entry, full_form, render, byte_at, read_signature}
use Rattle.wire.specs.declared.read.Kind.{Kind}
use Rattle.wire.specs.declared.read.Kind.TheVariants as kind
use Rattle.wire.specs.declared.entries.Entry as found

-- ---- the kind of a message

-- "0x01 SUBMIT", "0x02 NOTICE", "0x03 FULL", "0x05 EVIDENCE"; "Evidence becomes 0x07" (document 02, item 3); 0, which is no command, for
-- bytes that are none of these
unfoldable pub command_of : Kind → ℕ
command_of kind.Submit = 0x01
command_of kind.Notice = 0x02
command_of kind.Full = 0x03
command_of kind.OldEvidence = 0x05
command_of kind.Evidence = 0x07
command_of kind.Garbled = 0

-- "Each starts with a one-byte command"
unfoldable pub command : Message → ℕ
command m = byte_at (render m) 0

-- ---- the next entry of a reader

-- "0x04, seat 1, signature 1,452": the entry found, with the signature at its place; none at the end
unfoldable pub entry_of : Option found.Entry → List ℕ → List Entry
entry_of (Some e) bytes = record { seat = e.seat; signature = read_signature e.signature bytes } ∷ []
entry_of None bytes = []

-- the entry of a FULL at an index from 0; none past the last, or where the bytes have fewer entries than they count
unfoldable pub nth_entry : ℕ → List ℕ → List Entry
nth_entry i bytes =
    let count = byte_at bytes full_count_at in
    cond (leb (full_entry_at count) (length bytes) && ltb i count) (read_entry full_form (full_entry_at i) bytes ∷ []) []

-- the signature of an entry found stands in the entry of that index, after its command and seat
abbrev pub Stands : ℕ → Option found.Entry → Type 0
Stands i (Some e) = e.signature ≡ full_entry_at i + entry_held_at
Stands i None = Unit {0}

-- the answer is the entry at an index, in content and place
abbrev pub Found : ℕ → List ℕ → Option found.Entry → Type 0
Found i bytes s = (entry_of s bytes ≡ nth_entry i bytes) × Stands i s
