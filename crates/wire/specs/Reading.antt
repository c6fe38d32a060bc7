-- Kinds and entries, as the readers answer them.
-- Assumes nothing.
use Rattle.std.specs.Prelude.{Bool, List, [], ◌∷◌, ◌++◌, ℕ, zero, suc, ◌+◌, ◌<◌, eqb, length}
use Rattle.protocol.specs.Layout.{entry_seat_at, entry_length, entry_at}
use Rattle.protocol.specs.Entries.{each_below}
use Rattle.protocol.specs.Message.{PackForm, ValuesOnce, ValuesEach, pack_start, pair_held, Message, Submit, Notice, Full, Evidence, Garbled, pack_in, count_of, byte_at}
use Rattle.layout.specs.declared.Entries.{Entries}
use Rattle.wire.specs.declared.read.Kind.{Kind}
use Rattle.wire.specs.declared.read.Kind.TheVariants as kind

-- the kind of an EVIDENCE, by its form
abbrev pub pack_kind : PackForm → Kind
pack_kind (ValuesOnce values) = kind.OldEvidence
pack_kind ValuesEach = kind.Evidence

-- the kind of a message
unfoldable pub kind_of : Message → Kind
kind_of (Submit round seat value signature) = kind.Submit
kind_of (Notice round seat value) = kind.Notice
kind_of (Full round sender value entries) = kind.Full
kind_of (Evidence round form entries) = pack_kind form
kind_of Garbled = kind.Garbled

-- ---- entries

-- one byte of each of the first t entries, at the places of `place`
unfoldable pub bytes_at : (ℕ → ℕ) → ℕ → List ℕ → List ℕ
bytes_at place zero bytes = []
bytes_at place (suc t) bytes = bytes_at place t bytes ++ byte_at bytes (place t) ∷ []

-- the places of an entry's command and seat
abbrev pub command_place : Entries → ℕ → ℕ
command_place entries i = entry_at entries.start entries.length i

abbrev pub seat_place : Entries → ℕ → ℕ
seat_place entries i = entry_at entries.start entries.length i + entry_seat_at

-- every entry has the command
abbrev pub commands_are : ℕ → Entries → List ℕ → Bool
commands_are command entries bytes = each_below (λ (i : ℕ). eqb (byte_at bytes (command_place entries i)) command) entries.count

abbrev pub seats_in : Entries → List ℕ → List ℕ
seats_in entries bytes = bytes_at (seat_place entries) entries.count bytes

-- the entries of an EVIDENCE, by its form
abbrev pub pack_entries : List ℕ → Entries
pack_entries bytes = record { start = pack_start (pack_in bytes); length = entry_length (pair_held (pack_in bytes)); count = count_of bytes }

-- the command and the seat of the last entry lie in the message
abbrev pub Inside : Entries → List ℕ → Type 0
Inside entries bytes = entry_at entries.start entries.length entries.count + entry_seat_at < length bytes + entries.length
