-- The form of a message: `Messages` has its rows, 9 to 12, and `Senders` the seat that sends it. `MessagesLaws` has the laws of the rows, and
-- how a message's 9 to 14 begin with them; `TestsLaws` has the tests of 10, 11 and 12.
pub mod Messages
pub mod MessagesLaws
pub mod Senders
pub mod TestsLaws
