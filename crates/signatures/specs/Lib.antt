-- Keys and signatures: `Given` has the arguments besides a message, `Places` and `Entries` the signatures of a message. `EntriesLaws` has the
-- laws of `Entries`, `KeysLaws` those of the key table, `SeatsLaws` those of a seat's signature, `SignaturesLaws` those of the signatures
-- of a message, one entry after another.
pub mod Given
pub mod KeysLaws
pub mod SeatsLaws
pub mod Places
pub mod SignaturesLaws
pub mod Entries
pub mod EntriesLaws
