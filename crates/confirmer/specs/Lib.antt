-- The answer of submit and step (`Returns`), and the laws of the confirmer's code.
pub mod Returns
pub mod ReturnsLaws
