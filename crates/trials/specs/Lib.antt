-- Trials of the claims: runs whose computed answers prove a claim false where a definition is wrong (`mutations/`). `Toy` has a toy
-- signature check and unfolds the definitions, `Tests` has computable tests of a list of events or calls with their meaning, `Trial`
-- defines a trial, `Dispatching` has those of the dispatcher, and `Trials` has the runs.
pub mod Toy
pub mod Tests
pub mod Trial
pub mod Dispatching
pub mod Trials
