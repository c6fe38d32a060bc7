-- Sources of a certificate's signatures, and the laws of slots and of certificates held.
pub mod Sources
pub mod StoreLaws
pub mod SourcesLaws
