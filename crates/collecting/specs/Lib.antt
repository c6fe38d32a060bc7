-- The laws of the code that collects signatures (`CollectingLaws`) and keeps SUBMITs (`KeepingLaws`).
pub mod CollectingLaws
pub mod KeepingLaws
