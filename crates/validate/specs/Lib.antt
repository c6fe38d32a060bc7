-- Refusals of the calls: `Calls` has the rows of a call's own arguments, `CallsLaws` its laws, and `GivenLaws` those of the arguments besides
-- a message.
pub mod Calls
pub mod GivenLaws
pub mod CallsLaws
