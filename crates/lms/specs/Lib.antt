-- Intermediate values of the code (`Pieces`), with the laws that its proofs cite: `NodeLaws` on buffers, nodes and the climb,
-- `VerifyLaws` on refusals, `TreeLaws` on the tree's buffer, `SignerLaws` on keys and signatures, `CallsLaws` on the calls.
pub mod Types
pub mod TypesLaws
pub mod Pieces
pub mod NodeLaws
pub mod VerifyLaws
pub mod TreeLaws
pub mod SignerLaws
pub mod CallsLaws
