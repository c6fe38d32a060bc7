-- The entry at an index, as the code finds it.
-- Assumes nothing.
use Rattle.std.specs.Prelude.{◌≡◌, refl, Some, None, List, ℕ, ◌+◌, ◌≤◌, ◌<◌, length}
use Rattle.std.proofs.Common.{arith}
use borrow.Author.Tests.{le-leb, lt-leb, lt-ltb, le-ltb}
use Rattle.protocol.specs.Layout.{entry_seat_at, entry_held_at, full_count_at, full_entry_at}
use Rattle.protocol.specs.Entries.{read_entry}
use Rattle.protocol.specs.Message.{full_form, byte_at, read_signature}
use Rattle.wire.specs.Answers.{entry_of, nth_entry, Found}
use Rattle.wire.specs.declared.entries.Entry.{Entry}

-- three cases: the bytes have fewer entries than they count, the index is past the last, or its entry is found
module _ (bytes : List ℕ) (i count : ℕ) (e : count ≡ byte_at bytes full_count_at) where
  pub entry-short : length bytes < full_entry_at count → Found i bytes None
  unfolding entry_of nth_entry
  entry-short h = (rw (← e, lt-leb (full_entry_at count) (length bytes) h), tt)

  module _ (room : full_entry_at count ≤ length bytes) where
    pub entry_past : count ≤ i → Found i bytes None
    unfolding entry_of nth_entry
    entry_past h = (rw (← e, le-leb (full_entry_at count) (length bytes) room, le-ltb i count h), tt)

    pub entry_found : i < count → (found : Entry) → found.seat ≡ byte_at bytes (full_entry_at i + entry_seat_at) → found.signature ≡ full_entry_at i + entry_held_at → Found i bytes (Some found)
    unfolding entry_of nth_entry read_entry read_signature full_form
    entry_found h found q p = (rw (← e, le-leb (full_entry_at count) (length bytes) room, lt-ltb i count h, q, p), p)

-- no count: the bytes end before it
pub entry_none : (bytes : List ℕ) (i : ℕ) → length bytes ≤ full_count_at → Found i bytes None
unfolding full_entry_at
entry_none bytes i h = entry-short bytes i (byte_at bytes full_count_at) refl (omega arith)
