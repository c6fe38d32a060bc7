-- Digits: the bits of a digit (`Width`), intermediate values of the code (`Pieces`), and laws of writes and of digits.
pub mod Width
pub mod Pieces
pub mod WriteLaws
pub mod DigitLaws
