-- SHA-256 (FIPS 180-4).
--
-- `Fips` has the standard's definitions, `Rule` its rule for the constants and `Constants` the constants; `Pieces` has
-- intermediate values of the code. `FipsLaws` has the laws, `RuleLaws` those of the rule, `FormsLaws` that the code's forms of Ch
-- and Maj are the standard's. The theorems that rest on the round constants' values are in proofs/: `ConstantsLaws` has their laws,
-- `Worked` a worked example.
pub mod Constants
pub mod Fips
pub mod FormsLaws
pub mod FipsLaws
pub mod Pieces
pub mod Rule
pub mod RuleLaws
