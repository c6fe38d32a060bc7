-- What the calls return, over plain values.
-- Assumes nothing.
use Rattle.std.specs.Prelude.{Result, Ok, Err, IfOk, ℕ, ◌≤◌, ◌<◌, ◌≡◌, refl, true, false, not, get_or, length, [], ◌∷◌}
use Rattle.std.proofs.Common.{arith, eq-eqb, ne_eqb}
use Rattle.refusal.specs.declared.Refusal.{Refusal}
use Rattle.refusal.specs.Answers.{number_of, number_in}
use Rattle.refusal.specs.AnswersLaws.{number-nonzero}
use Rattle.refusal.specs.Refusal.{first_of, unrefused}
use Rattle.refusal.specs.RefusalLaws.{refused-old, none_left, row-held, row-passed}
use Rattle.refusal.specs.Order.{is_in}
use Rattle.dispatch.specs.Dispatcher.{lanes, places, index_of, lane_of, count, impossible}
use Rattle.protocol.specs.Record.{wrong_round}
use Rattle.dispatch.specs.Calls.{LANE, FULL, adding_conditions, dispatched_by}
use Rattle.dispatch.specs.declared.Dispatcher.{Dispatcher}
use Rattle.dispatch_claims.specs.ListLaws.{by, index_of-found, index_of-absent}
use Rattle.dispatcher.specs.Answers.{dispatched_in}

-- a round that isn't among eight, by where it was looked for
module _ (d : Dispatcher) (round : ℕ) (eight : length d.rounds ≡ lanes) where
  not_among : lanes ≤ lane_of d round → not (is_in round d.rounds) ≡ true
  unfolding lane_of
  not_among h =
      by (is_in round d.rounds)
      (λ e. absurd (omega (arith, (index_of-found round d.rounds e).0, eight)))
      (λ e. rw e)

  is_among : lane_of d round < lanes → not (is_in round d.rounds) ≡ false
  unfolding lane_of
  is_among h =
      by (is_in round d.rounds)
      (λ e. rw e)
      (λ e. absurd (omega (arith, index_of-absent round d.rounds e, eight)))

-- an add whose round and dispatcher are as they should be, by where its round was looked for
module _ (d : Dispatcher) (round lane : ℕ) (eight : length d.rounds ≡ lanes) (dated : wrong_round round ≡ false) (possible : impossible d ≡ false) (at : lane ≡ index_of round d.rounds) where
  at_lane : lane ≡ lane_of d round
  unfolding lane_of
  at_lane = at

  possible-row : (number : ℕ) → number ≡ first_of (LANE d round ∷ FULL d round ∷ []) → number ≡ first_of (adding_conditions d round)
  unfolding adding_conditions
  possible-row number n = row-passed 3 (wrong_round round) _ number dated (row-passed 4 (impossible d) _ number possible n)

  pub add-unknown : lanes ≤ lane → 18 ≡ first_of (adding_conditions d round)
  add-unknown h = possible-row 18 (row-held 18 _ _ (not_among d round eight (omega (arith, at_lane, h))))

  module _ (h : lane < lanes) where
    known-row : (number : ℕ) → number ≡ first_of (FULL d round ∷ []) → number ≡ first_of (adding_conditions d round)
    known-row number n = possible-row number (row-passed 18 _ _ number (is_among d round eight (omega (arith, at_lane, h))) n)

    pub add-full : get_or d.counts lane 0 ≡ places → 19 ≡ first_of (adding_conditions d round)
    unfolding count
    add-full c = known-row 19 (row-held 19 _ _ (eq-eqb (get_or d.counts (lane_of d round) 0) places (rw at_lane at c)))

    pub add-taken : (get_or d.counts lane 0 ≡ places → ⊥) → 0 ≡ first_of (adding_conditions d round)
    unfolding count
    add-taken c = known-row 0 (row-passed 19 _ _ 0 (ne_eqb (get_or d.counts (lane_of d round) 0) places (rw at_lane at c)) (none_left 0 refl))

-- ---- answers as C gets them

pub answered : (answer : Result Dispatcher Refusal) (number : ℕ) (new old : Dispatcher) → number_in answer ≡ number → IfOk answer (λ d. d ≡ new)
    → dispatched_in answer old ≡ dispatched_by number new old
unfolding dispatched_by unrefused
answered (Ok d) number new old n e = rw (← n, e)
answered (Err e) number new old n _ = rw (← n, refused-old (number_of e) new old (number-nonzero e))
