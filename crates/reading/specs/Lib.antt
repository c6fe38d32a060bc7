-- Bytes that a list of calls writes: their only reading as messages (`Reading`), and the messages of each call (`Messages`). `XLaws`
-- has the laws of `X`, `ListsLaws` those of tests and lists, `UnbrokenLaws` those of a unit that only makes calls. The claims and the
-- trials of edits both stand on it.
pub mod ListsLaws
pub mod Reading
pub mod ReadingLaws
pub mod Messages
pub mod MessagesLaws
pub mod UnbrokenLaws
