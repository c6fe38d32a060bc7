-- Document 01, with document 02's items 1 to 3 and 5, as definitions, from bytes up to calls.
--
-- `Layout` has lengths and places (`Figures`: the documents' figures), `Values` the order of values, `Entries` lists of entries, `Message`
-- the commands on the air, `Certificate` the certificates behind FULL and EVIDENCE, `Joining` one pack from two, `Record` a unit's record, `Note` its note, `Conditions` and
-- `Refusals` the causes of a refusal (`Order`: their order), `Step` submit and step once nothing is refused, `Signatures` a seat's
-- signature and the calls on keys and signatures, and `Calls` each other call as a whole. `XLaws` has the laws of `X`,
-- `SeatLaws` those of rising lists of seats and their sets, `RoundTripLaws` the law that bytes read are written back the same, `SignatureClaim` the claim that signatures made by the signer are
-- accepted, `NoteClaim` the claims on a note written and read back.
pub mod Layout
pub mod LayoutLaws
pub mod Figures
pub mod Values
pub mod ValuesLaws
pub mod Entries
pub mod EntriesLaws
pub mod Message
pub mod MessageLaws
pub mod RoundTripLaws
pub mod Certificate
pub mod CertificateLaws
pub mod Joining
pub mod Record
pub mod RecordLaws
pub mod Note
pub mod NoteLaws
pub mod Conditions
pub mod ConditionsLaws
pub mod SeatLaws
pub mod JoiningLaws
pub mod Refusals
pub mod Order
pub mod Step
pub mod StepLaws
pub mod Signatures
pub mod SignaturesLaws
pub mod SignatureClaim
pub mod Calls
pub mod CallsLaws
pub mod Answers
pub mod AnswersLaws
pub mod NoteClaim
