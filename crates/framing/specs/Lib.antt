-- The length of the first message in a buffer, and the law that it is exact for messages written.
pub mod Framing
pub mod FramingLaws
