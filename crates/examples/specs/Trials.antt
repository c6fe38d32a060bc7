-- The runs of the trials under the definitions as they stand: where the premises hold, so does the conclusion. In the runs for edited
-- premises the premises don't hold. Runs of the same boats are answered by one equation, so that these are computed once.
-- Assumes nothing.
use Rattle.std.specs.Prelude.{◌≡◌, refl, Bool, true, false}
use Rattle.std.proofs.Common.{ap}
use Rattle.claims.specs.Once.{written-messages, at_most, sends-one, none_impossible}
use Rattle.claims.specs.Culprits.{shared_are_guilty_lem, guilty-once, writes-new-form}
use Rattle.claims.specs.Joined.{joined-accepted, refused-alone}
use Rattle.dispatch_claims.specs.CallsLaws.{stays-possible}
use Rattle.dispatch_claims.specs.Tickets.{in_order}
use Rattle.dispatch_claims.specs.Waits.{waits_at_most-seven}
use Rattle.dispatch_claims.specs.LongestAgo.{serves_longest-ago}
use Rattle.trials.specs.Trial.{claim_of, answer}
use Rattle.trials.specs.Trials.{unfolded_trials, four, pair, answering, sharing, slow, interrupted, divided_boats, forewarned_boats, witnessed_boats, short_stored_boats, short_outed_boats, unheard_boats, unsigned_boats, twice_boats, holding_boats, kept_other_boats, kept_unsigned_boats, unsigned_evidence, equal_evidence, equal_old_evidence, joins_both_boats, joins_unsigned_boats, joins_equal_boats, overlapping, with_old, answering_boat, sharing_boat, slow_boat, third, own_third, unsigned as unsigned_boat, third_guilty, own_third_guilty, refused_guilty, third_once, third_new_form, third_at_most, third_readable, third_pays, interrupted_boat, interrupted_sending, newest_boats, older_boats, same_stored_boats, other_stored_boats, unnoted_boats, hasty_boat, blank_boat, refilled, served_twice, newcomers, wait_again, seven_turns, eight_turns}

abbrev Answer : Type 0
Answer = Bool × Bool

-- ---- boats that confirm the layouts 7 and 9

divided-answers : ◌≡◌ {A = Answer × Answer × Answer × Answer × Answer × Answer × Answer × Answer}
    (answer divided_boats, answer forewarned_boats, answer witnessed_boats, answer short_stored_boats, answer short_outed_boats, answer same_stored_boats, answer other_stored_boats, answer unnoted_boats)
    ((true, true), (true, true), (true, true), (false, false), (false, false), (true, true), (false, false), (false, false))
unfolding unfolded_trials divided_boats forewarned_boats witnessed_boats short_stored_boats short_outed_boats same_stored_boats other_stored_boats unnoted_boats
divided-answers = refl

divided : answer divided_boats ≡ (true, true)
divided = ap (λ r. r.0) divided-answers

forewarned : answer forewarned_boats ≡ (true, true)
forewarned = ap (λ r. r.1) divided-answers

witnessed : answer witnessed_boats ≡ (true, true)
witnessed = ap (λ r. r.2) divided-answers

short-stored : answer short_stored_boats ≡ (false, false)
short-stored = ap (λ r. r.3) divided-answers

short_outed_lem : answer short_outed_boats ≡ (false, false)
short_outed_lem = ap (λ r. r.4) divided-answers

same_stored_lem : answer same_stored_boats ≡ (true, true)
same_stored_lem = ap (λ r. r.5) divided-answers

other-stored : answer other_stored_boats ≡ (false, false)
other-stored = ap (λ r. r.6) divided-answers

unnoted : answer unnoted_boats ≡ (false, false)
unnoted = ap (λ r. r.7) divided-answers

-- ---- a boat that hears a signature which doesn't check

unsigned-answers : ◌≡◌ {A = Answer × Answer}
    (answer unsigned_boats, answer refused_guilty)
    ((true, true), (true, true))
unfolding unfolded_trials unsigned_boats refused_guilty
unsigned-answers = refl

unsigned : answer unsigned_boats ≡ (true, true)
unsigned = ap (λ r. r.0) unsigned-answers

refused-guilty : answer refused_guilty ≡ (true, true)
refused-guilty = ap (λ r. r.1) unsigned-answers

-- ---- a boat that hears two SUBMITs of a seat

evidence-answers : ◌≡◌ {A = Answer × Answer × Answer}
    (answer unsigned_evidence, answer equal_evidence, answer equal_old_evidence)
    ((true, true), (true, true), (true, true))
unfolding unfolded_trials unsigned_evidence equal_evidence equal_old_evidence
evidence-answers = refl

unsigned-evidence : answer unsigned_evidence ≡ (true, true)
unsigned-evidence = ap (λ r. r.0) evidence-answers

equal_evidence_lem : answer equal_evidence ≡ (true, true)
equal_evidence_lem = ap (λ r. r.1) evidence-answers

equal_old-evidence : answer equal_old_evidence ≡ (true, true)
equal_old-evidence = ap (λ r. r.2) evidence-answers

-- ---- packs joined

joins-both : answer joins_both_boats ≡ (true, true)
unfolding unfolded_trials joins_both_boats
joins-both = refl

joins-unsigned : answer joins_unsigned_boats ≡ (true, true)
unfolding unfolded_trials joins_unsigned_boats
joins-unsigned = refl

joins_equal_lem : answer joins_equal_boats ≡ (true, true)
unfolding unfolded_trials joins_equal_boats
joins_equal_lem = refl

joins-overlapping : answer overlapping ≡ (true, true)
unfolding unfolded_trials overlapping
joins-overlapping = refl

joins_with_old : answer with_old ≡ (true, true)
unfolding unfolded_trials with_old
joins_with_old = refl

-- ---- a boat that hears certificates of three layouts

third-answers : ◌≡◌ {A = Answer × Answer × Answer × Answer × Answer × Answer}
    (answer third_guilty, answer third_once, answer third_new_form, answer third_at_most, answer third_readable, answer third_pays)
    ((true, true), (true, true), (true, true), (true, true), (true, true), (true, true))
unfolding unfolded_trials third_guilty third_once third_new_form third_at_most third_readable third_pays
third-answers = refl

third-guilty : answer third_guilty ≡ (true, true)
third-guilty = ap (λ r. r.0) third-answers

third-once : answer third_once ≡ (true, true)
third-once = ap (λ r. r.1) third-answers

third-new-form : answer third_new_form ≡ (true, true)
third-new-form = ap (λ r. r.2) third-answers

third_at_most_lem : answer third_at_most ≡ (true, true)
third_at_most_lem = ap (λ r. r.3) third-answers

third-readable : answer third_readable ≡ (true, true)
third-readable = ap (λ r. r.4) third-answers

third_pays_lem : answer third_pays ≡ (true, true)
third_pays_lem = ap (λ r. r.5) third-answers

-- ---- a boat that loses power

interrupted-answers : ◌≡◌ {A = Answer × Answer}
    (answer interrupted_boat, answer interrupted_sending)
    ((true, true), (true, true))
unfolding unfolded_trials interrupted_boat interrupted_sending
interrupted-answers = refl

interrupted-once : answer interrupted_boat ≡ (true, true)
interrupted-once = ap (λ r. r.0) interrupted-answers

interrupted-sends-one : answer interrupted_sending ≡ (true, true)
interrupted-sends-one = ap (λ r. r.1) interrupted-answers

-- ---- the other runs

unheard : answer unheard_boats ≡ (false, false)
unfolding unfolded_trials unheard_boats
unheard = refl

twice : answer twice_boats ≡ (true, true)
unfolding unfolded_trials twice_boats
twice = refl

holding : answer holding_boats ≡ (true, true)
unfolding unfolded_trials holding_boats
holding = refl

kept-other : answer kept_other_boats ≡ (true, true)
unfolding unfolded_trials kept_other_boats
kept-other = refl

kept-unsigned : answer kept_unsigned_boats ≡ (true, true)
unfolding unfolded_trials kept_unsigned_boats
kept-unsigned = refl

once : answer answering_boat ≡ (true, true)
unfolding unfolded_trials answering_boat
once = refl

possible : answer sharing_boat ≡ (true, true)
unfolding unfolded_trials sharing_boat
possible = refl

possible-slow : answer slow_boat ≡ (true, true)
unfolding unfolded_trials slow_boat
possible-slow = refl

own-third-guilty : answer own_third_guilty ≡ (true, true)
unfolding unfolded_trials own_third_guilty
own-third-guilty = refl

newest : answer newest_boats ≡ (true, true)
unfolding unfolded_trials newest_boats
newest = refl

older : answer older_boats ≡ (false, false)
unfolding unfolded_trials older_boats
older = refl

hasty : answer hasty_boat ≡ (false, false)
unfolding unfolded_trials hasty_boat
hasty = refl

blank : answer blank_boat ≡ (false, false)
unfolding unfolded_trials blank_boat
blank = refl

-- ---- the dispatcher

dispatcher_refilled : answer refilled ≡ (true, true)
unfolding unfolded_trials refilled
dispatcher_refilled = refl

served_twice_lem : answer served_twice ≡ (true, true)
unfolding unfolded_trials served_twice
served_twice_lem = refl

newcomers_first : answer newcomers ≡ (true, true)
unfolding unfolded_trials newcomers
newcomers_first = refl

wait_again_lem : answer wait_again ≡ (true, true)
unfolding unfolded_trials wait_again
wait_again_lem = refl

seven-turns : answer seven_turns ≡ (true, true)
unfolding unfolded_trials seven_turns
seven-turns = refl

eight-turns : answer eight_turns ≡ (true, true)
unfolding unfolded_trials eight_turns
eight-turns = refl

-- ---- the claims

-- the claims of demand 1 and of item 3 on one boat, for the boats of their trials; then those of items 5 and 6
once_claimed : claim_of answering_boat
once_claimed = at_most four answering

possible_claimed : claim_of sharing_boat
possible_claimed = none_impossible four sharing

slow_claimed : claim_of slow_boat
slow_claimed = none_impossible four slow

interrupted_claimed : claim_of interrupted_boat
interrupted_claimed = at_most pair interrupted

sends_claimed : claim_of interrupted_sending
sends_claimed = sends-one pair interrupted

third-guilty_claimed : claim_of third_guilty
third-guilty_claimed = shared_are_guilty_lem four third

own-third_claimed : claim_of own_third_guilty
own-third_claimed = shared_are_guilty_lem four own_third

refused-guilty_claimed : claim_of refused_guilty
refused-guilty_claimed = shared_are_guilty_lem four (unsigned_boat true)

third-once_claimed : claim_of third_once
third-once_claimed = guilty-once four third

third-new-form_claimed : claim_of third_new_form
third-new-form_claimed = writes-new-form four third

third_at_most_claimed : claim_of third_at_most
third_at_most_claimed = at_most four third

third-readable_claimed : claim_of third_readable
third-readable_claimed = written-messages four third

overlapping_claimed : claim_of overlapping
overlapping_claimed = joined-accepted four

with_old_claimed : claim_of with_old
with_old_claimed = refused-alone four

refilled_claimed : claim_of refilled
refilled_claimed = in_order

served_twice_claimed : claim_of served_twice
served_twice_claimed = stays-possible

newcomers_claimed : claim_of newcomers
newcomers_claimed = serves_longest-ago

turns_claimed : claim_of eight_turns
turns_claimed = waits_at_most-seven
