-- Two packs joined: `Packs` has the packs that a joining takes, `PacksLaws` the laws of their entries, `ReturnsLaws` those of the call.
pub mod Packs
pub mod PacksLaws
pub mod ReturnsLaws
