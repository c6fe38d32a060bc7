-- Answers of the probes, and the laws of their returns.
pub mod Probes
pub mod ProbesLaws
