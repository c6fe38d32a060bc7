-- Sixteen compressions of SHA-256 side by side.
--
-- `Rows` has the lanes in rows and the values of the code's pieces, `RowsLaws` the laws.
pub mod Rows
pub mod RowsLaws
