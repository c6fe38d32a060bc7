-- Answers of the code as document 01's numbers: "Where an answer is an enum, a definition gives this paper's number and values for
-- each case of the enum."
use Rattle.std.specs.Prelude.{ℕ, Result, Ok, Err}
use Rattle.refusal.specs.declared.Refusal.{Refusal}
use Rattle.refusal.specs.declared.Refusal.TheVariants as refusal

-- the number of a refusal
abbrev pub number_of : Refusal → ℕ
number_of refusal.Size = 1
number_of refusal.Seat = 2
number_of refusal.Round = 3
number_of refusal.Record = 4
number_of refusal.Keys = 5
number_of refusal.Store = 6
number_of refusal.Out = 7
number_of refusal.Said = 8
number_of refusal.Garbled = 9
number_of refusal.OtherRound = 10
number_of refusal.Stranger = 11
number_of refusal.Disorder = 12
number_of refusal.Signature = 14
number_of refusal.NoConflict = 15
number_of refusal.KeyMaterial = 16
number_of refusal.Note = 17
number_of refusal.Lane = 18
number_of refusal.Full = 19

-- the number of an answer: 0 where nothing is refused
abbrev pub number_in : {A : Type 0} → Result A Refusal → ℕ
number_in (Ok x) = 0
number_in (Err e) = number_of e
