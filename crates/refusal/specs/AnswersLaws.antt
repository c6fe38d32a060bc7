-- No refusal has the number 0.
use Rattle.std.specs.Prelude.{◌≡◌, ◌≤◌, Result, Err, IsErrAnd}
use Rattle.std.proofs.Common.{ap, ◌∙◌, arith}
use Rattle.std.proofs.lemmas.Result.{err_from_is_err_and}
use Rattle.refusal.specs.declared.Refusal.{Refusal}
use Rattle.refusal.specs.declared.Refusal.TheVariants as refusal
use Rattle.refusal.specs.Answers.{number_of, number_in}

number-above : (e : Refusal) → 1 ≤ number_of e
number-above refusal.Size = omega arith
number-above refusal.Seat = omega arith
number-above refusal.Round = omega arith
number-above refusal.Record = omega arith
number-above refusal.Keys = omega arith
number-above refusal.Store = omega arith
number-above refusal.Out = omega arith
number-above refusal.Said = omega arith
number-above refusal.Garbled = omega arith
number-above refusal.OtherRound = omega arith
number-above refusal.Stranger = omega arith
number-above refusal.Disorder = omega arith
number-above refusal.Signature = omega arith
number-above refusal.NoConflict = omega arith
number-above refusal.KeyMaterial = omega arith
number-above refusal.Note = omega arith
number-above refusal.Lane = omega arith
number-above refusal.Full = omega arith

pub number-nonzero : (e : Refusal) → number_of e ≡ 0 → ⊥
number-nonzero e z = absurd (omega (arith, number-above e, z))

-- ---- a refusal handed on by `?`

module _ {A : Type 0} (r : Result A Refusal) (e : Refusal) (h : IsErrAnd r (λ y. y ≡ e)) where
  pub handed_on : r ≡ Err e
  handed_on = let y = err_from_is_err_and r h in y.1 ∙ ap Err y.2

  pub number-handed_on : number_in r ≡ number_of e
  number-handed_on = ap number_in handed_on
