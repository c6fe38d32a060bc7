-- Results of a phase of submit and step, and the state before and after every phase (`Phases`), with their laws. The phases themselves are
-- in crates `collecting`, `certificates` and `steps`.
pub mod Phases
pub mod PhasesLaws
