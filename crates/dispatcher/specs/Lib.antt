-- `Answers` has the answers as C gets them. The laws that the dispatcher's proofs cite: `LoopLaws` of the loops, `TurnsLaws` of whose turn it is, `ReturnsLaws` of what the calls return.
pub mod Answers
pub mod LoopLaws
pub mod TurnsLaws
pub mod ReturnsLaws
