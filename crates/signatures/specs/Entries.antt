-- Bytes of a message with no stranger in it, kind by kind.
-- Assumes nothing.
use Rattle.std.specs.Prelude.{◌≡◌, List, ℕ, ◌+◌, ◌<◌, length}
use Rattle.quorum.specs.Quorum.{k}
use Rattle.protocol.specs.Layout.{seat_at, submit_length, entry_seat_at, full_count_at, full_entry_at, full_length}
use Rattle.protocol.specs.Message.{byte_at, count_of, read, read_submit, read_full, read_evidence}
use Rattle.wire.specs.Reading.{command_place, seat_place, pack_entries}

pub record SubmitTaken (n : ℕ) (bytes : List ℕ) : Type 0 where
  pub says : read n bytes ≡ read_submit bytes
  pub size : length bytes ≡ submit_length
  pub known : byte_at bytes seat_at < n

pub record FullTaken (n : ℕ) (bytes : List ℕ) : Type 0 where
  pub says : read n bytes ≡ read_full n bytes
  pub size : length bytes ≡ full_length n
  pub count : byte_at bytes full_count_at ≡ k n
  pub known : (i : ℕ) → i < k n → byte_at bytes (full_entry_at i + entry_seat_at) < n

-- EVIDENCE, in either form, ends with its last entry
abbrev pub Ends : List ℕ → Type 0
Ends bytes = length bytes ≡ command_place (pack_entries bytes) (count_of bytes)

pub record EvidenceTaken (n : ℕ) (bytes : List ℕ) : Type 0 where
  pub says : read n bytes ≡ read_evidence bytes
  pub ends : Ends bytes
  pub known : (i : ℕ) → i < count_of bytes → byte_at bytes (seat_place (pack_entries bytes) i) < n
