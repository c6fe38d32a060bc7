-- The evidence check, and evidence from two certificates.
--
-- `Making` has the lower certificate of two. `PassedLaws` has the laws that the calls share, `ReturnsLaws` those of the evidence
-- check, `LentLaws` those of what a call that makes evidence is given, `MakingLaws` those of evidence and of the lower certificate from two.
pub mod PassedLaws
pub mod ReturnsLaws
pub mod LentLaws
pub mod Making
pub mod MakingLaws
