use Rattle.std.proofs.Common.{arith}
use Rattle.protocol.specs.Layout.{signature_length, full_entry_length, full_entry_at}
use Rattle.store.specs.Sources.{entry_place}
use Rattle.store.proofs.sources.entry_place.Goals as goal

pub entry_held_at-requires : goal.entry_held_at-requires
unfolding full_entry_length signature_length
entry_held_at-requires c = rw c.full_entries-entries.ensures (omega arith)

pub returns : goal.returns
unfolding entry_place full_entry_at full_entry_length
returns c = rw (c.entry_held_at.ensures, c.full_entries-entries.ensures, c.shared_count-below.ensures, c.all.ensures)
