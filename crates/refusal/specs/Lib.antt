-- Refusals by number: `Answers` has the numbers of the code's enum, `Refusal` the rows of a call, `Order` the first number in a written
-- order, `Lowest` the lowest number.
-- `XLaws` has the laws of `X`.
pub mod Answers
pub mod AnswersLaws
pub mod Refusal
pub mod RefusalLaws
pub mod Order
pub mod OrderLaws
pub mod Lowest
pub mod LowestLaws
