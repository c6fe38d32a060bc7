-- Answers of the readers, with the laws that tie them to the definitions of `protocol`.
pub mod Reading
pub mod Answers
pub mod StringLaws
pub mod WalkLaws
pub mod FormLaws
pub mod KindLaws
pub mod MessageLaws
pub mod NextLaws
