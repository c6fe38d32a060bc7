-- Need of safety's premise: a small run with a forged signature, in which an honest seat is blamed; computed with a toy signature check
-- that compares two bytes (`trials/specs/Toy: toy`).
-- Assumes nothing.
use Rattle.std.specs.Prelude.{ℕ, ◌≡◌, refl, Bool, true, false, List, [], ◌∷◌}
use Rattle.std.proofs.Common.{sym, ap, ◌∙◌}
use Rattle.round.specs.Round.{IsHonest, Boat, Family, Delivered, WritesEvidence, Names}
use Rattle.round.specs.Demand3.{NoneForged}
use Rattle.reading.specs.UnbrokenLaws.{unbroken-honest}
use Rattle.claims.specs.Claim.{demand_3_any}
use Rattle.trials.specs.Toy.{full_by}
use Rattle.trials.specs.Tests.{all, formed, accuses, accuses-says}
use Rattle.trials.specs.Trials.{unfolded_trials, four, says, hears, boat_at, at_two}

-- seat 0 submits the layout 7 alone, and certificates of two layouts with signatures of seat 0 reach seat 1
abbrev boat : Bool → Boat
boat false = boat_at 0 (says 0 7 ∷ [])
boat true = boat_at 1 (hears (full_by 7 0 2 3) ∷ hears (full_by 9 0 2 3) ∷ [])

honest : (i : Bool) → IsHonest four (boat i)
unfolding unfolded_trials
honest false = unbroken-honest four 0 (boat false).store (says 0 7 ∷ []) [] refl
honest true = unbroken-honest four 1 (boat true).store (hears (full_by 7 0 2 3) ∷ hears (full_by 9 0 2 3) ∷ []) [] refl

at_seat : (i : Bool) → at_two (boat i).seat ≡ i
at_seat false = refl
at_seat true = refl

family : Family four boat
family = record { honest = honest; apart = λ i j d e. d (sym (at_seat i) ∙ ap at_two e ∙ at_seat j) }

-- an honest seat is blamed
well_formed_lem : formed four (all four (boat true)) ≡ true
unfolding unfolded_trials
well_formed_lem = refl

named : accuses four (all four (boat true)) 0 ≡ true
unfolding unfolded_trials
named = refl

honest-blamed : (evidence : List ℕ) × WritesEvidence four (boat true) evidence × Names four evidence 0
honest-blamed = accuses-says four (boat true) well_formed_lem 0 named

-- safety's premise fails in this run
pub premise_fails : NoneForged four boat (Delivered four boat) → ⊥
premise_fails none =
    let e = honest-blamed in
    ((demand_3_any four boat family).safety none).written false true e.0 e.1 e.2
