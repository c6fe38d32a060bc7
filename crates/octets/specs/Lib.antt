-- Bytes as lists of numbers.
--
-- `Octets` has the definitions on buffers, numbers and words, `Strings` those on whole byte strings. `OctetsLaws` and
-- `StringsLaws` have their laws, `WriteLaws` those of writes.
pub mod Octets
pub mod OctetsLaws
pub mod Strings
pub mod StringsLaws
pub mod WriteLaws
