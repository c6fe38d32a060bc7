use Rattle.store.specs.Sources.{bytes_of}
use Rattle.store.proofs.sources.bytes_of.Goals as goal

pub returns-in-Entries : goal.returns-in-Entries
unfolding bytes_of
returns-in-Entries c = rw c.in-Entries.is

pub returns-in-Slots : goal.returns-in-Slots
unfolding bytes_of
returns-in-Slots c = rw c.in-Slots.is
