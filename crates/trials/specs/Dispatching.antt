-- Trials of what is promised of the dispatcher (document 02, item 6), each from an opening over a list of calls. Nothing here uses a proof of
-- the promises.
-- Assumes nothing.
use Rattle.std.specs.Prelude.{ℕ, ◌*◌, ◌≡◌, refl, Bool, true, cond, not, ◌&&◌, ◌||◌, List, [], ◌∷◌, ◌++◌, eqb, leb, ltb, length, get_or}
use Rattle.std.proofs.Common.{sym, ap, subst, ◌∙◌, true≢false, eqb-true, le-leb, ltb-true}
use Rattle.std.proofs.lemmas.Bool.{not-true, not-false}
use Rattle.octets.specs.Strings.{same}
use Rattle.octets.specs.StringsLaws.{same_refl, same_true}
use Rattle.refusal.specs.RefusalLaws.{both_true, both_false}
use Rattle.refusal.specs.Order.{is_in, distinct}
use Rattle.protocol.specs.Refusals.{every}
use Rattle.protocol.specs.ConditionsLaws.{each_every}
use Rattle.reading.specs.ListsLaws.{cond_elim}
use Rattle.dispatch.specs.Dispatcher.{lanes, places, round_of, index_of, lane_of, count, head, place, ticket_at, tickets_of, waiting, serving, opened, zeros, some_above, wrong_rounds, wrong_counts, wrong_order, impossible, Sized}
use Rattle.dispatch.specs.Turns.{is_waiting, never_served, goes_first, first_of_two, first_new, longest_ago, or_else, next_lane, unless, without, served_last, less_oldest, added}
use Rattle.dispatch.specs.Calls.{opening_conditions, adding_conditions, turn_conditions, dispatched_by, open_dispatcher, add_ticket, gives_none, gives_oldest, turn_of, turn_by, take_turn}
use Rattle.dispatch.specs.Lists.{Call, after, after_all, one_if, put_in, given_by, taken_out, went_in, came_out, turns, Possible, StaysPossible, InOrder, WaitsAtMost, given_round, rounds_given, ago, LongestAgo, ServesLongestAgo}
use Rattle.dispatch.specs.declared.Eight.{Eight}
use Rattle.dispatch.specs.declared.Dispatcher.{Dispatcher}
use Rattle.dispatch.specs.declared.Turn.{Turn}
use Rattle.trials.specs.Trial.{Trial}

-- ---- a dispatcher in use

abbrev lengths : Dispatcher → List ℕ
lengths d = length d.rounds ∷ length d.counts ∷ length d.heads ∷ length d.order ∷ length d.tickets ∷ []

abbrev lengths_due : List ℕ
lengths_due = lanes ∷ lanes ∷ lanes ∷ lanes ∷ places * lanes ∷ []

unfoldable pub is_sized : Dispatcher → Bool
is_sized d = same (lengths d) lengths_due

is_sized-says : (d : Dispatcher) → is_sized d ≡ true → Sized d
unfolding is_sized
is_sized-says d e =
    let at : (i : ℕ) → get_or (lengths d) i 0 ≡ get_or lengths_due i 0 = λ i. ap (λ ns. get_or ns i 0) (same_true (lengths d) lengths_due e) in
    record { rounds = at 0; counts = at 1; heads = at 2; order = at 3; tickets = at 4 }

sized_is : (d : Dispatcher) → Sized d → is_sized d ≡ true
unfolding is_sized
sized_is d s = rw (s.rounds, s.counts, s.heads, s.order, s.tickets) (same_refl lengths_due)

unfoldable pub is_possible : Dispatcher → Bool
is_possible d = is_sized d && not (impossible d)

pub is_possible-says : (d : Dispatcher) → is_possible d ≡ true → Possible d
unfolding is_possible
is_possible-says d e =
    let both = both_true (is_sized d) (not (impossible d)) e in
    record { sized = is_sized-says d both.0; possible = not-true (impossible d) both.1 }

pub possible_is : (d : Dispatcher) → Possible d → is_possible d ≡ true
unfolding is_possible
possible_is d p = rw (sized_is d p.sized, p.possible)

-- ---- the lane served longest ago

-- whether a turn is fair to a lane, by the dispatcher and the rounds given out so far: if the lane waits, the turn gives a ticket, of a lane
-- that was served as long ago or longer, and if as long, has no higher round
unfoldable pub fair_to : Dispatcher → List ℕ → Turn → ℕ → Bool
fair_to d gs t l =
    cond (ltb l lanes && is_waiting d l)
    (t.given && (leb (ago (round_of d l) gs) (ago t.round gs) && cond (eqb (ago (round_of d l) gs) (ago t.round gs)) (leb t.round (round_of d l)) true)) true

pub longest_fair : (d : Dispatcher) (gs : List ℕ) (t : Turn) → LongestAgo d gs t → (l : ℕ) → fair_to d gs t l ≡ true
unfolding fair_to
longest_fair d gs t a l =
    let mine = ago (round_of d l) gs in
    let its = ago t.round gs in
    cond_elim (λ x. x ≡ true) (ltb l lanes && is_waiting d l) _ _
    (λ e.
    let both = both_true (ltb l lanes) (is_waiting d l) e in
    let lane = ltb-true l lanes both.0 in
    let tie : cond (eqb mine its) (leb t.round (round_of d l)) true ≡ true =
    cond_elim (λ x. x ≡ true) (eqb mine its) _ _ (λ q. le-leb t.round (round_of d l) (a.lowest l lane both.1 (eqb-true mine its q))) (λ q. refl) in
    rw (a.gives l lane both.1, le-leb mine its (a.longest l lane both.1), tie)) (λ e. refl)

-- ---- the trials

module _ (eight : Eight) (cs : List Call) where
  abbrev start : Dispatcher
  start = (open_dispatcher eight).dispatcher

  abbrev reached : Dispatcher
  reached = after_all start cs

  -- whether the dispatcher that comes out is possible
  unfoldable pub stays_possible : Trial StaysPossible
  stays_possible = record {
    premises = is_possible start;
    conclusion = is_possible reached;
    refutes = λ p c claim. true≢false (sym (possible_is reached (claim start (is_possible-says start p) cs)) ∙ c);
  }

  -- whether a lane's tickets come out in the order in which they went in
  unfoldable pub in_order : ℕ → Trial InOrder
  in_order l =
      let r = round_of start l in
      let put = waiting start l ++ went_in r start cs in
      let out = came_out r start cs ++ waiting reached l in
      record {
        premises = is_possible start && ltb l lanes;
        conclusion = same put out;
        refutes = λ p c claim.
            let both = both_true (is_possible start) (ltb l lanes) p in
            true≢false (sym (subst (λ x. same put x ≡ true) (claim start (is_possible-says start both.0) cs l (ltb-true l lanes both.1)) (same_refl put)) ∙ c);
      }

  -- whether later calls have n turns at most or give out a ticket of a lane that waits by then
  unfoldable pub waits_at_most : {n : ℕ} → ℕ → List Call → Trial (WaitsAtMost n)
  waits_at_most {n = n} l later =
      let given = came_out (round_of reached l) reached later in
      record {
        premises = is_possible reached && (ltb l lanes && is_waiting reached l);
        conclusion = leb (turns later) n || not (same given []);
        refutes = λ p c claim.
            let a = both_true (is_possible reached) (ltb l lanes && is_waiting reached l) p in
            let b = both_true (ltb l lanes) (is_waiting reached l) a.1 in
            let neither = both_false (leb (turns later) n) (not (same given [])) c in
            let none = same_true given [] (not-false (same given []) neither.1) in
            true≢false (sym (le-leb (turns later) n (claim reached (is_possible-says reached a.0) l (ltb-true l lanes b.0) b.1 later none)) ∙ neither.0);
      }

  -- whether the next turn is fair to each of these lanes
  unfoldable pub serves_longest_ago : List ℕ → Trial ServesLongestAgo
  serves_longest_ago tried =
      let test = fair_to reached (rounds_given start cs []) (take_turn reached) in
      record {
        premises = eqb (length eight.round) lanes && eqb (open_dispatcher eight).number 0;
        conclusion = every test tried;
        refutes = λ p c claim.
            let both = both_true (eqb (length eight.round) lanes) (eqb (open_dispatcher eight).number 0) p in
            let a = claim eight (eqb-true (length eight.round) lanes both.0) (eqb-true (open_dispatcher eight).number 0 both.1) cs in
            true≢false (sym (each_every test tried (λ l d. longest_fair reached (rounds_given start cs []) (take_turn reached) a l)) ∙ c);
      }

-- a name that unfolds the dispatcher's definitions and these trials
unfoldable pub unfolded_dispatching : Bool
unfolding is_in distinct round_of index_of lane_of count head place ticket_at tickets_of waiting serving opened zeros some_above wrong_rounds wrong_counts wrong_order impossible is_waiting never_served goes_first first_of_two first_new longest_ago or_else next_lane unless without served_last less_oldest added opening_conditions adding_conditions turn_conditions dispatched_by open_dispatcher add_ticket gives_none gives_oldest turn_of turn_by take_turn after after_all one_if put_in given_by taken_out went_in came_out turns given_round rounds_given ago is_sized is_possible fair_to stays_possible in_order waits_at_most serves_longest_ago
unfolded_dispatching = true
