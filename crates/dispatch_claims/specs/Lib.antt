-- The dispatcher's promises, proved: `Answers` which number a call answers, `Tickets` that tickets come out in order, `Waits` how long a lane
-- waits at most, `SevenReached` that it may wait so long, `LongestAgo` whose turn it is by the turns before. `ListLaws` and `ServingLaws` have the
-- laws of lists, `CallsLaws` and `LaneLaws` those of the calls, `TicketsLaws` of the tickets of a lane, `ChoiceLaws` of the lane whose turn it is.
pub mod ListLaws
pub mod CallsLaws
pub mod Answers
pub mod TicketsLaws
pub mod Tickets
pub mod ServingLaws
pub mod ChoiceLaws
pub mod LaneLaws
pub mod Waits
pub mod LongestAgo
pub mod SevenReached
