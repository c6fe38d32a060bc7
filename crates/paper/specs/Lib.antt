-- The ABC paper's accountable confirmer, and the claim that the engine does exactly what it does (demand 2).
--
-- To read, in this order: `Machine` has the paper's Algorithm 2 as an abstract machine that forgets nothing, and the messages of its
-- actions; `Memory` has the part of its state that a unit's record and store keep; `Events` the calls of a list as its events, and the
-- statement of the claim; `Received` the source of everything sent. The claims are in `Claim`; `Happens` shows that every call that should
-- be an event is one, and `First` that the first detection is the paper's. `Guard` has small runs; docs/PAPER.md has the paper's lines
-- beside the definitions.
--
-- `ConflictsLaws` shows which two notices are found, `NewlyLaws` which seats two certificates show, `Rules` that no rule is left to do
-- after an event, and `Remembers` that the machine forgets nothing. `Mirror` has the invariant between two events; `Parts` and `Collects`
-- prove it for the parts of a call, `Calls` for a whole call, `Discards` for a refused one, and `Along` for a list. `Spoken` has the
-- messages sent, by the engine's functions; `Based` shows that they were received. `EntriesLaws` has laws of lists of entries.
pub mod Machine
pub mod Memory
pub mod Events
pub mod Received
pub mod ConflictsLaws
pub mod NewlyLaws
pub mod Rules
pub mod Remembers
pub mod EntriesLaws
pub mod Spoken
pub mod Based
pub mod Mirror
pub mod First
pub mod Parts
pub mod Collects
pub mod Calls
pub mod Discards
pub mod Along
pub mod Claim
pub mod Happens
pub mod Guard
