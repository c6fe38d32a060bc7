-- Demands 1 and 3 over whole lists of calls, proved. Their statements are definitions of crate `round`.
--
-- The claims are in `Claim` (the whole of demand 3, with an order of reading) and at the end of `Once` (demand 1); the two halves of
-- demand 3 are at the end of `Safe` and of `Blamed`, and the claim about evidence made from two certificates is at the end of `Made`.
-- Crate `examples` has rounds in which their premises hold. The claims of document 02, item 1, are in `Kept` (what is kept of early
-- SUBMITs), `Before` (answers as before) and at the end of `Gain` (a unit that has kept enough confirms at its submit); those of item 2
-- are in `Power` (the calls that count of a unit that loses power), and `Once` and `Claim` have what it sends; those of item 3 are in
-- `Culprits` (guilty seats, and the packs that name them) and `OldPacks` (0x05 is checked as before), with the number of packs in `Once` and
-- the first one's seats in `Blamed`; those of item 5, packs joined, are in `Joined`.
--
-- `Sound` has the invariant of record and store along a list; `Parts` and `KeptLaws` prove it for the parts of a step, `Whole`
-- for a whole step, `Journey` for a list without power cuts. `Opened` has an honest unit's opening, `Power` turns its list into one
-- without power cuts, and `Units` has its list. The files named `..Laws` have laws for these.

pub mod SlotsLaws
pub mod Sound
pub mod KeptPartLaws
pub mod CertificatesLaws
pub mod PacksLaws
pub mod Parts
pub mod KeptLaws
pub mod Whole
pub mod UnrefusedLaws
pub mod NotRefused
pub mod JoinedLaws
pub mod Journey
pub mod Opened
pub mod PowerLaws
pub mod Power
pub mod Units
pub mod Kept
pub mod Before
pub mod OldPacks
pub mod CollectKeptLaws
pub mod Gain
pub mod Safe
pub mod Once
pub mod Made
pub mod Joined
pub mod Culprits
pub mod Blamed
pub mod Claim
