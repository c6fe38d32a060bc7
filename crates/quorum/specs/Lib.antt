-- Seats and thresholds: definitions (`Quorum`), and laws (`QuorumLaws`).
pub mod Quorum
pub mod QuorumLaws
