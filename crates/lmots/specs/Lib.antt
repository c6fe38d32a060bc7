-- Keys and leaves: intermediate values of the code (`Leaves`), and laws. The definitions of LM-OTS are in rfc8554's `Ots`.
pub mod KeyLaws
pub mod Leaves
pub mod LeavesLaws
