-- RFC 8554 over SHA-256 (n = m = 32): LM-OTS of widths 4 and 8, LMS trees of heights 5 and 10.
--
-- Definitions: `Ots` has section 4 and Appendix A, `Tree` section 5.3 with the signature and the tree's buffer, `Verify`
-- section 5.4.2. Each has its laws in a module of its own.
pub mod Ots
pub mod Tree
pub mod Verify
pub mod OtsLaws
pub mod TreeLaws
pub mod VerifyLaws
