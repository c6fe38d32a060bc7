-- Chains: intermediate values of the code (`Pieces`, and `Sixteen` for sixteen side by side), and laws.
pub mod Pieces
pub mod WordLaws
pub mod ChainLaws
pub mod Sixteen
pub mod SixteenLaws
