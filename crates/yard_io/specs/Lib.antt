-- The yard's program over its buffers.
--
-- A contract doesn't know the input, which stands in a buffer once it is read: `Reading` has the buffer after reading, and
-- `Run` the program's results, by the definitions of `yard`. `XLaws` has the laws of `X`.
pub mod Reading
pub mod ReadingLaws
pub mod Run
pub mod RunLaws
