-- The interface's version, and the law of refused calls.
pub mod Version
pub mod Refused
