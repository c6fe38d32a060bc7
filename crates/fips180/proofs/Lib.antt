-- Theorems that rest on the constants: their laws, and a worked example.
pub mod ConstantsLaws
pub mod Worked
