-- What `lent` answers, over plain values. The names are plain, since an attribute of tactics cites them.
-- Assumes nothing.
use Rattle.std.specs.Prelude.{◌≡◌, List, [], ◌∷◌, ℕ}
use Rattle.refusal.specs.declared.Refusal.{Refusal}
use Rattle.refusal.specs.Answers.{number_of}
use Rattle.refusal.specs.AnswersLaws.{number-nonzero}
use Rattle.refusal.specs.Refusal.{first_of}
use Rattle.protocol.specs.Refusals.{outside_conditions, OUT}
use Rattle.validate.specs.Calls.{given_conditions}
use Rattle.validate.specs.GivenLaws.{given-first, given-last}

-- a refusal of n, round or key table
pub first_refused : (n round stated : ℕ) (keys out : List ℕ) (e : Refusal) → number_of e ≡ first_of (outside_conditions n round keys)
    → number_of e ≡ first_of (given_conditions n round keys stated out)
first_refused n round stated keys out e h = given-first n round keys stated out (number_of e) h (number-nonzero e)

-- the answer on out, where n, round and key table are not refused
pub out_answered : (n round stated number : ℕ) (keys out : List ℕ) → 0 ≡ first_of (outside_conditions n round keys) → number ≡ first_of (OUT stated out ∷ [])
    → number ≡ first_of (given_conditions n round keys stated out)
out_answered n round stated number keys out h k = given-last n round keys stated out h number k
