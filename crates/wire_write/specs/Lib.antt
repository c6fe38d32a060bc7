-- Buffers after the writers, with their laws.
pub mod Writing
pub mod WritingLaws
