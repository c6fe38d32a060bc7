-- Document 01's "A round as a whole" (`Round`), for units that may lose power (document 02, item 2), demands 3 and 1 in its words
-- (`Demand3`, `Demand1`), and document 02's items 3 (`Culprits`) and 5 (`Joins`), as definitions. Crate `claims` proves them.
pub mod Round
pub mod Demand3
pub mod Demand1
pub mod Culprits
pub mod Joins
