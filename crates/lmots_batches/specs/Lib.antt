-- All chains of a leaf in batches of sixteen: their places and values (`Batches`), and the laws (`BatchesLaws`).
pub mod Batches
pub mod BatchesLaws
