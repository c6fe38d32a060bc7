-- Runs of the definitions: the premises of the claims can be met, and are needed.
--
-- Deduced: a round that double signers split, so that demand 3's premises hold and its conclusions follow. `Split` has the round over any
-- fleet and any signature check, `SplitProof` the proof; `MadeKeys` has keys and signatures of our key maker and signer, and `Fleets` the
-- round with these under RFC 8554's check, for any fleet, and of 4 and 7 seats.
--
-- Computed, with a toy signature check: whole calls (`Runs`), a forged signature (`Guard`) and, in part deduced, a boat that confirms in
-- the call of its submit (`SlowBoat`), boats that lose power (`PowerCuts`), a unit that hears certificates of three layouts
-- (`ThirdCertificate`), and packs joined (`HarbourOffice`). `Trials` has the runs of the trials under the definitions as they stand,
-- `Notes` the bytes of two notes, and `Marked` document 01's marked cases.
pub mod Marked
pub mod Runs
pub mod Guard
pub mod SlowBoat
pub mod PowerCuts
pub mod ThirdCertificate
pub mod HarbourOffice
pub mod Notes
pub mod Split
pub mod SplitProof
pub mod MadeKeys
pub mod Fleets
pub mod Trials
