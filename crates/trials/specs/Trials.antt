-- Runs for trials of edited definitions: four seats, or two, one to three boats with short lists of calls and of power cuts, or two packs to
-- join, and a toy signature check; or a dispatcher's calls. A run may give a boat the messages that another writes by the definitions, edited
-- or not.
-- Assumes nothing.
use Rattle.std.specs.Prelude.{ℕ, zero, suc, ◌≡◌, refl, Bool, true, false, cond, replicate}
use mathlib.Core.List.{List, [], ◌∷◌, ◌++◌, map, Memᴰ}
use Rattle.protocol.specs.Layout.{note_length, store_length, out_length, joined_out_length}
use Rattle.protocol.specs.Message.{Pair, ValuesOnce, ValuesEach, Message, Submit, Notice, Full, Evidence, Garbled, render, byte_at}
use Rattle.round.specs.Round.{Setting, Call, BySubmit, ByStep, Called, Saved, Event, Makes, Keeps, Sends, ComesBack, OpensAgain, Join, InHand, Boat, begins, after, after_all, written_over, Are, IsHonest, Family, outcome, result_of, list_of}
use Rattle.round.specs.Demand1.{is_submit, is_notice, worth, count, most, AtMost, SendsOne}
use Rattle.round.specs.Culprits.{SharedAreGuilty, GuiltyOnce, WritesNewForm}
use Rattle.round.specs.Demand3.{Demand3}
use Rattle.round.specs.Joins.{own_number, JoinsTwo, RefusesAsAlone}
use Rattle.refusal.specs.Refusal.{◌before◌}
use Rattle.protocol.specs.Record.{impossible}
use Rattle.protocol.specs.Refusals.{is_full}
use Rattle.reading.specs.Reading.{frame_length}
use Rattle.reading.specs.Messages.{refusal_of, came_to, all_messages}
use Rattle.dispatch.specs.Lists.{Call as DispatcherCall, adds, turn, StaysPossible, InOrder, WaitsAtMostSeven, ServesLongestAgo}
use Rattle.dispatch.specs.declared.Eight.{Eight}
use Rattle.trials.specs.Toy.{unfolded, toy, layout, sign, keys, submit_by, entry_by, full_by, pair_by}
use Rattle.trials.specs.Tests.{found, entry_sized, same_pair, pair_sized, values_sized, well_formed, is_notice_of, is_evidence_on, first_pack, new_form, apart, is_message, readable, is_step_of, is_submit_of, message_in, same_signed, sent_in, same_saved, is_newest, none_saved, wrote, allowed, allowed_all, is_honest, all, formed, submits, reached, confirms, must_reach, have_reached, names_enough, blames, first_pays, accuses, made_on, shared_guilty, heard_guilty, given_guilty, own_guilty}
use Rattle.trials.specs.Trial.{Trial, at_most, sends_one, readable_all, possible_each, shared_are_guilty, guilty_once, writes_new_form, first_pack_pays, Crew, computed, accountability, safety, joins_two, refuses_as_alone}
use Rattle.trials.specs.Dispatching.{unfolded_dispatching, stays_possible, in_order, waits_at_most, serves_longest_ago}

-- ---- setting and calls of the runs

abbrev pub four : Setting
four = record { n = 4; round = 5; keys = keys 4; checks = toy }

abbrev pub room : List ℕ
room = replicate (out_length 4) 0

abbrev pub says : ℕ → ℕ → Call
says seat b = BySubmit (layout b) (sign seat b) room

abbrev pub hears : Message → Call
hears m = ByStep (render m) room

abbrev pub boat_at : ℕ → List Call → Boat
boat_at seat calls = record { seat = seat; store = replicate (store_length 4) 1; events = map Makes calls; in_hand = [] }

-- a boat with more events, or calls, at the end
abbrev pub does : Boat → List Event → Boat
does u more = record { seat = u.seat; store = u.store; events = u.events ++ more; in_hand = [] }

abbrev pub then : Boat → List Call → Boat
then u more = does u (map Makes more)

-- the members of a list that pass a test
unfoldable pub those {ℓ} : {A : Type ℓ} → (A → Bool) → List A → List A
those test [] = []
those test (x ∷ xs) = cond (test x) (x ∷ those test xs) (those test xs)

-- the NOTICE and FULL that a boat has written
unfoldable pub sent_by : Boat → List Message
sent_by u = those (must_reach four) (all four u)

-- ---- two boats, and three

abbrev pub of_two {ℓ} : {A : Type ℓ} → A → A → Bool → A
of_two a b false = a
of_two a b true = b

pub data Three : Type 0 where
  Zeroth First Second : Three

abbrev pub of_three {ℓ} : {A : Type ℓ} → A → A → A → Three → A
of_three a b c Zeroth = a
of_three a b c First = b
of_three a b c Second = c

abbrev pub at_two : ℕ → Bool
at_two zero = false
at_two (suc i) = true

pub two-complete : (i : Bool) → Memᴰ i (false ∷ true ∷ [])
two-complete false = Memᴰ.head refl
two-complete true = Memᴰ.tail (Memᴰ.head refl)

pub two_at : (i : Bool) → at_two (of_two 0 1 i) ≡ i
two_at false = refl
two_at true = refl

pub two-shared : {A : Type 0} (f : Bool → A) (i : Bool) → of_two (f false) (f true) i ≡ f i
two-shared f false = refl
two-shared f true = refl

unfoldable pub two : Crew Bool
two = record {
  everyone = false ∷ true ∷ [];
  complete = two-complete;
  place = of_two 0 1;
  at = at_two;
  at_place = two_at;
  shared = λ f. of_two (f false) (f true);
  shared_same = two-shared;
}

abbrev pub at_three : ℕ → Three
at_three zero = Zeroth
at_three (suc zero) = First
at_three (suc (suc i)) = Second

pub three-complete : (i : Three) → Memᴰ i (Zeroth ∷ First ∷ Second ∷ [])
three-complete Zeroth = Memᴰ.head refl
three-complete First = Memᴰ.tail (Memᴰ.head refl)
three-complete Second = Memᴰ.tail (Memᴰ.tail (Memᴰ.head refl))

pub three_at : (i : Three) → at_three (of_three 0 1 2 i) ≡ i
three_at Zeroth = refl
three_at First = refl
three_at Second = refl

pub three-shared : {A : Type 0} (f : Three → A) (i : Three) → of_three (f Zeroth) (f First) (f Second) i ≡ f i
three-shared f Zeroth = refl
three-shared f First = refl
three-shared f Second = refl

unfoldable pub three : Crew Three
three = record {
  everyone = Zeroth ∷ First ∷ Second ∷ [];
  complete = three-complete;
  place = of_three 0 1 2;
  at = at_three;
  at_place = three_at;
  shared = λ f. of_three (f Zeroth) (f First) (f Second);
  shared_same = three-shared;
}

-- ---- accountability: seats 2 and 3 sign twice, and seats 0 and 1 confirm different layouts

-- a boat hears a NOTICE of the other's layout, submits its own and collects the signatures of seats 2 and 3
abbrev pub noticed : ℕ → ℕ → ℕ → ℕ → Boat
noticed seat b other c = boat_at seat (hears (Notice 5 other (layout c)) ∷ says seat b ∷ hears (submit_by 2 b) ∷ hears (submit_by 3 b) ∷ [])

unfoldable pub seven : Boat
seven = noticed 0 7 1 9

unfoldable pub nine : Boat
nine = noticed 1 9 0 7

unfoldable pub divided : Bool → Boat
divided = of_two (then seven (map hears (sent_by nine))) (then nine (map hears (sent_by seven)))

unfoldable pub divided_boats : Trial (Family four divided → Demand3 four divided)
divided_boats = accountability four two divided false true (layout 7) (layout 9)

-- each boat hears a NOTICE of the other's layout before it submits, and of the other's messages only the FULL
unfoldable pub forewarned : Bool → Boat
forewarned = of_two (then seven (map hears (those is_full (all four nine)))) (then nine (map hears (those is_full (all four seven))))

unfoldable pub forewarned_boats : Trial (Family four forewarned → Demand3 four forewarned)
forewarned_boats = accountability four two forewarned false true (layout 7) (layout 9)

-- a third boat, which has submitted nothing, hears the NOTICE and FULL of both
unfoldable pub witnessed : Three → Boat
witnessed = of_three (divided false) (divided true) (boat_at 2 (map hears (sent_by seven ++ sent_by nine)))

unfoldable pub witnessed_boats : Trial (Family four witnessed → Demand3 four witnessed)
witnessed_boats = accountability four three witnessed Zeroth First (layout 7) (layout 9)

-- a third boat's store is a byte short
unfoldable pub short_stored : Three → Boat
short_stored = of_three (divided false) (divided true) (record { seat = 2; store = replicate 17551 1; events = map Makes (map hears (sent_by seven ++ sent_by nine)); in_hand = [] })

unfoldable pub short_stored_boats : Trial (Family four short_stored → Demand3 four short_stored)
short_stored_boats = accountability four three short_stored Zeroth First (layout 7) (layout 9)

-- one boat's out is a byte short for the other's NOTICE and FULL
unfoldable pub short_outed : Bool → Boat
short_outed = of_two (divided false) (then nine (map (λ m. ByStep (render m) (replicate 14836 0)) (sent_by seven)))

unfoldable pub short_outed_boats : Trial (Family four short_outed → Demand3 four short_outed)
short_outed_boats = accountability four two short_outed false true (layout 7) (layout 9)

-- neither boat hears a NOTICE; each hears the FULL that the other writes, if any
abbrev pub confirming : ℕ → ℕ → Boat
confirming seat b = boat_at seat (says seat b ∷ hears (submit_by 2 b) ∷ hears (submit_by 3 b) ∷ [])

unfoldable pub unheard : Bool → Boat
unheard = of_two (then (confirming 0 7) (map hears (those is_full (all four (confirming 1 9))))) (then (confirming 1 9) (map hears (those is_full (all four (confirming 0 7)))))

unfoldable pub unheard_boats : Trial (Family four unheard → Demand3 four unheard)
unheard_boats = accountability four two unheard false true (layout 7) (layout 9)

-- ---- safety: seat 0 submits the layout 7 and nobody forges

-- seat 1 hears a certificate of the layout 7, then one of the layout 9 with a signature of seat 0 that doesn't check
unfoldable pub unsigned : Bool → Boat
unsigned = of_two (boat_at 0 (says 0 7 ∷ [])) (boat_at 1 (hears (full_by 7 0 2 3) ∷ hears (Full 5 2 (layout 9) (entry_by 7 0 ∷ entry_by 9 2 ∷ entry_by 9 3 ∷ [])) ∷ []))

unfoldable pub unsigned_boats : Trial (Family four unsigned → Demand3 four unsigned)
unsigned_boats = safety four two unsigned []

-- seats 2 and 3 make a certificate with each SUBMIT that seat 0 writes
unfoldable pub certified : Message → List Call
certified (Submit ρ seat value signature) =
    hears (Full ρ 2 value (record { seat = seat; signature = signature } ∷ entry_by (byte_at value 0) 2 ∷ entry_by (byte_at value 0) 3 ∷ [])) ∷ []
certified (Notice ρ seat value) = []
certified (Full ρ sender value entries) = []
certified (Evidence ρ form entries) = []
certified Garbled = []

unfoldable pub certified_each : List Message → List Call
certified_each [] = []
certified_each (m ∷ ms) = certified m ++ certified_each ms

unfoldable pub submitting : Boat
submitting = boat_at 0 (says 0 7 ∷ says 0 9 ∷ [])

unfoldable pub twice : Bool → Boat
twice = of_two submitting (boat_at 1 (certified_each (all four submitting)))

unfoldable pub twice_boats : Trial (Family four twice → Demand3 four twice)
twice_boats = safety four two twice []

-- seat 0 holds a certificate of seats 1, 2 and 3, and confirms with seats 2 and 3
unfoldable pub holding : Bool → Boat
holding = of_two (boat_at 0 (hears (full_by 9 1 2 3) ∷ says 0 7 ∷ hears (submit_by 2 7) ∷ hears (submit_by 3 7) ∷ [])) (boat_at 1 (says 1 9 ∷ []))

unfoldable pub holding_boats : Trial (Family four holding → Demand3 four holding)
holding_boats = safety four two holding []

-- seat 0 submits the layout 9; seat 1 hears a SUBMIT of seat 0, submits the layout 7 with seat 2, and hears a certificate of the layout 9
abbrev pub kept_before : Message → Bool → Boat
kept_before m = of_two (boat_at 0 (says 0 9 ∷ [])) (boat_at 1 (hears m ∷ hears (submit_by 2 7) ∷ says 1 7 ∷ hears (full_by 9 0 2 3) ∷ []))

-- seat 0's own SUBMIT, and one of the layout 7 with its signature, which doesn't check there
unfoldable pub kept_other : Bool → Boat
kept_other = kept_before (submit_by 0 9)

unfoldable pub kept_unsigned : Bool → Boat
kept_unsigned = kept_before (Submit 5 0 (layout 7) (sign 0 9))

unfoldable pub kept_other_boats : Trial (Family four kept_other → Demand3 four kept_other)
kept_other_boats = safety four two kept_other []

unfoldable pub kept_unsigned_boats : Trial (Family four kept_unsigned → Demand3 four kept_unsigned)
kept_unsigned_boats = safety four two kept_unsigned []

-- seat 2 hears both SUBMITs of seat 0, which signs twice; seat 1's, and one of another layout with the same signature
unfoldable pub heard_twice : Bool → Boat
heard_twice = of_two (boat_at 1 (says 1 7 ∷ [])) (boat_at 2 (hears (submit_by 0 7) ∷ hears (submit_by 0 9) ∷ hears (submit_by 1 7) ∷ hears (Submit 5 1 (layout 9) (sign 1 7)) ∷ []))

-- EVIDENCE of seat 0's two signatures, and of seat 1's one given twice: over two layouts, or over one. The old form has the values of its
-- message alone.
abbrev pub twice_given : ℕ → ℕ → Pair
twice_given b c = record { seat = 1; lower_value = layout b; higher_value = layout c; lower = sign 1 7; higher = sign 1 7 }

abbrev pub framing : ℕ → ℕ → List ℕ
framing b c = render (Evidence 5 ValuesEach (pair_by 7 9 0 ∷ twice_given b c ∷ []))

abbrev pub old_framing : ℕ → ℕ → List ℕ
old_framing b c = render (Evidence 5 (ValuesOnce (record { lower = layout b; higher = layout c })) (twice_given b c ∷ []))

unfoldable pub unsigned_evidence : Trial (Family four heard_twice → Demand3 four heard_twice)
unsigned_evidence = safety four two heard_twice (framing 7 9 ∷ old_framing 7 9 ∷ [])

unfoldable pub equal_evidence : Trial (Family four heard_twice → Demand3 four heard_twice)
equal_evidence = safety four two heard_twice (framing 7 7 ∷ [])

unfoldable pub equal_old_evidence : Trial (Family four heard_twice → Demand3 four heard_twice)
equal_old_evidence = safety four two heard_twice (old_framing 7 7 ∷ [])

-- ---- packs joined (document 02, item 5)

-- what a boat has in hand, and joins
abbrev pub joins : List ℕ → List ℕ → InHand
joins a b = record { work = Join; a = a; b = b; out = replicate (joined_out_length 4) 0 }

abbrev pub pack_of : List Pair → List ℕ
pack_of ps = render (Evidence 5 ValuesEach ps)

-- seat 1 submits the layout 7; seat 2 joins a pack about seat 0, which signs twice, with another
abbrev pub joiner : List Pair → Bool → Boat
joiner ps =
    of_two (boat_at 1 (says 1 7 ∷ []))
    (record { seat = 2; store = replicate (store_length 4) 1; events = []; in_hand = joins (pack_of (pair_by 7 9 0 ∷ [])) (pack_of ps) ∷ [] })

-- one about seats 0 and 3, which sign twice
unfoldable pub joins_both : Bool → Boat
joins_both = joiner (pair_by 7 8 0 ∷ pair_by 7 8 3 ∷ [])

-- one about seat 1, from its one signature given twice: over two layouts, or over one
unfoldable pub joins_unsigned : Bool → Boat
joins_unsigned = joiner (twice_given 7 9 ∷ [])

unfoldable pub joins_equal : Bool → Boat
joins_equal = joiner (twice_given 7 7 ∷ [])

unfoldable pub joins_both_boats : Trial (Family four joins_both → Demand3 four joins_both)
joins_both_boats = safety four two joins_both []

unfoldable pub joins_unsigned_boats : Trial (Family four joins_unsigned → Demand3 four joins_unsigned)
joins_unsigned_boats = safety four two joins_unsigned []

unfoldable pub joins_equal_boats : Trial (Family four joins_equal → Demand3 four joins_equal)
joins_equal_boats = safety four two joins_equal []

-- two packs with seat 1 in both, each with another pair; and a second one of the old form
abbrev pub first_of_two : List ℕ
first_of_two = pack_of (pair_by 7 9 0 ∷ pair_by 7 9 1 ∷ [])

abbrev pub second_of_two : List ℕ
second_of_two = pack_of (pair_by 7 8 1 ∷ pair_by 7 8 3 ∷ [])

abbrev pub second_old : List ℕ
second_old = render (Evidence 5 (ValuesOnce (record { lower = layout 7; higher = layout 8 })) (pair_by 7 8 1 ∷ []))

unfoldable pub overlapping : Trial (JoinsTwo four)
overlapping = joins_two four first_of_two second_of_two (replicate (joined_out_length 4) 0) (0 ∷ 1 ∷ 2 ∷ 3 ∷ [])

unfoldable pub with_old : Trial (RefusesAsAlone four)
with_old = refuses_as_alone four first_of_two second_old (replicate (joined_out_length 4) 0)

-- ---- demand 1: one boat

-- a boat hears another layout's NOTICE before its submit, and again after it has confirmed
unfoldable pub answering : Boat
answering = then seven (hears (Notice 5 1 (layout 9)) ∷ [])

unfoldable pub answering_boat : Trial (IsHonest four answering → AtMost four answering)
answering_boat = at_most four answering

-- a boat hears two certificates that share two seats of three
unfoldable pub sharing : Boat
sharing = boat_at 0 (hears (full_by 7 0 1 2) ∷ hears (full_by 9 1 2 3) ∷ [])

unfoldable pub sharing_boat : Trial (IsHonest four sharing → (c : Called) → Memᴰ c (list_of four sharing) → impossible (result_of four c).unit ≡ false)
sharing_boat = possible_each four sharing

-- a boat hears a SUBMIT of every other seat before its submit
unfoldable pub slow : Boat
slow = boat_at 0 (hears (submit_by 1 7) ∷ hears (submit_by 2 7) ∷ hears (submit_by 3 7) ∷ says 0 7 ∷ [])

unfoldable pub slow_boat : Trial (IsHonest four slow → (c : Called) → Memᴰ c (list_of four slow) → impossible (result_of four c).unit ≡ false)
slow_boat = possible_each four slow

-- ---- more culprits (document 02, item 3): seats 0, 1 and 2 sign twice. No premise on signatures is used.

-- Seat 3 hears a certificate of the layout 7 by seats 0, 1 and 2, twice one of the layout 9 by seats 0, 1 and 3, and one of the layout 8 by the
-- seats of the first.
unfoldable pub third : Boat
third = boat_at 3 (hears (full_by 7 0 1 2) ∷ hears (full_by 9 0 1 3) ∷ hears (full_by 9 0 1 3) ∷ hears (full_by 8 0 1 2) ∷ [])

-- Its own certificate, of the layout 9 with seats 1 and 2, comes third.
unfoldable pub own_third : Boat
own_third = boat_at 3 (hears (full_by 7 0 1 2) ∷ hears (full_by 9 0 1 3) ∷ says 3 9 ∷ hears (submit_by 1 9) ∷ hears (submit_by 2 9) ∷ [])

unfoldable pub third_guilty : Trial (IsHonest four third → SharedAreGuilty four third)
third_guilty = shared_are_guilty four third

unfoldable pub own_third_guilty : Trial (IsHonest four own_third → SharedAreGuilty four own_third)
own_third_guilty = shared_are_guilty four own_third

-- a boat that hears a certificate of another layout with a signature that doesn't check
unfoldable pub refused_guilty : Trial (IsHonest four (unsigned true) → SharedAreGuilty four (unsigned true))
refused_guilty = shared_are_guilty four (unsigned true)

unfoldable pub third_once : Trial (IsHonest four third → GuiltyOnce four third)
third_once = guilty_once four third (0 ∷ 1 ∷ 2 ∷ 3 ∷ [])

unfoldable pub third_new_form : Trial (IsHonest four third → WritesNewForm four third)
third_new_form = writes_new_form four third

unfoldable pub third_at_most : Trial (IsHonest four third → AtMost four third)
third_at_most = at_most four third

unfoldable pub third_readable : Trial (IsHonest four third → (ms : List Message) × Are 4 (written_over four (list_of four third)) ms)
third_readable = readable_all four third

unfoldable pub third_pays : Trial (Family four (λ (i : Unit {0}). third) → Demand3 four (λ (i : Unit {0}). third))
third_pays = first_pack_pays four third

-- ---- power cuts (document 02, item 2)

-- two seats, of which none confirms alone
abbrev pub pair : Setting
pair = record { n = 2; round = 5; keys = keys 2; checks = toy }

abbrev pub boat_of_pair : List Event → Boat
boat_of_pair events = record { seat = 0; store = replicate (store_length 2) 1; events = events; in_hand = [] }

abbrev pub keeps : Event
keeps = Keeps (replicate note_length 0)

-- what a boat has kept, newest first, and one of these by its place
unfoldable pub kept_by : Setting → Boat → List Saved
kept_by S u = (after_all S u.seat (begins S u) u.events).saved

unfoldable pub saved_at : ℕ → List Saved → Saved
saved_at i [] = record { note = []; store = [] }
saved_at zero (saved ∷ older) = saved
saved_at (suc i) (saved ∷ older) = saved_at i older

-- the boat comes back from a note that it kept, by its place, and the store kept with it
abbrev pub comes_back : Setting → ℕ → Boat → Boat
comes_back S i u = does u (ComesBack (saved_at i (kept_by S u)) ∷ [])

-- A submit of the layout 9 is lost before the first note. A submit of the layout 7 is kept; power is lost, and the SUBMIT is sent after
-- that. The layout 9 is then refused. A confirmation is lost, and made again.
unfoldable pub interrupted : Boat
interrupted =
    let opened = boat_of_pair (Makes (says 0 9) ∷ OpensAgain (replicate (store_length 2) 2) ∷ []) in
    let submitted = comes_back pair 0 (does opened (Makes (says 0 7) ∷ keeps ∷ [])) in
    let confirmed = comes_back pair 0 (does submitted (Sends (submit_by 0 7) ∷ Makes (says 0 9) ∷ keeps ∷ Makes (hears (submit_by 1 7)) ∷ [])) in
    does confirmed (Makes (hears (submit_by 1 7)) ∷ keeps ∷ Sends (submit_by 0 7) ∷ Sends (Notice 5 0 (layout 7)) ∷ [])

unfoldable pub interrupted_boat : Trial (IsHonest pair interrupted → AtMost pair interrupted)
interrupted_boat = at_most pair interrupted

unfoldable pub interrupted_sending : Trial (IsHonest pair interrupted → SendsOne interrupted)
interrupted_sending = sends_one pair interrupted

-- a boat submits the layout 7 and sends it, before a note is kept (`hasty`) or after (`blank`); it is opened again and submits the layout 9
abbrev pub opens_again : List Event → Boat
opens_again sending = boat_of_pair (Makes (says 0 7) ∷ sending ++ OpensAgain (replicate (store_length 2) 1) ∷ Makes (says 0 9) ∷ keeps ∷ Sends (submit_by 0 9) ∷ [])

unfoldable pub hasty : Boat
hasty = opens_again (Sends (submit_by 0 7) ∷ [])

unfoldable pub blank : Boat
blank = opens_again (keeps ∷ Sends (submit_by 0 7) ∷ [])

unfoldable pub hasty_boat : Trial (IsHonest pair hasty → SendsOne hasty)
hasty_boat = sends_one pair hasty

unfoldable pub blank_boat : Trial (IsHonest pair blank → SendsOne blank)
blank_boat = sends_one pair blank

-- seat 0 keeps a note, submits the layout 7, keeps and sends; it comes back from a note by its place, submits the layout 9, keeps and sends
-- what was written. Seats 2 and 3 make a certificate with each SUBMIT that it sends.
abbrev pub returning : ℕ → List Message → Bool → Boat
returning i more =
    let u = comes_back four i (does (boat_at 0 []) (keeps ∷ Makes (says 0 7) ∷ keeps ∷ Sends (submit_by 0 7) ∷ [])) in
    let sender = does u (Makes (says 0 9) ∷ keeps ∷ map Sends more) in
    of_two sender (boat_at 1 (certified_each (sent_in sender.events)))

unfoldable pub newest : Bool → Boat
newest = returning 0 (submit_by 0 7 ∷ [])

unfoldable pub older : Bool → Boat
older = returning 1 (submit_by 0 9 ∷ [])

unfoldable pub newest_boats : Trial (Family four newest → Demand3 four newest)
newest_boats = safety four two newest []

unfoldable pub older_boats : Trial (Family four older → Demand3 four older)
older_boats = safety four two older []

-- two boats confirm different layouts; one keeps a note, written to this out, and comes back from it with a store made of the one kept
abbrev pub returned : List ℕ → (List ℕ → List ℕ) → Bool → Boat
returned out with =
    let u = does seven (Keeps out ∷ []) in
    let saved = saved_at 0 (kept_by four u) in
    of_two (then (does u (ComesBack (record { note = saved.note; store = with saved.store }) ∷ [])) (map hears (sent_by nine))) (divided true)

unfoldable pub same_stored : Bool → Boat
same_stored = returned (replicate note_length 0) (λ store. store)

unfoldable pub other_stored : Bool → Boat
other_stored = returned (replicate note_length 0) (λ store. replicate (store_length 4) 1)

-- no room for the note: it is refused
unfoldable pub unnoted : Bool → Boat
unnoted = returned [] (λ store. store)

unfoldable pub same_stored_boats : Trial (Family four same_stored → Demand3 four same_stored)
same_stored_boats = accountability four two same_stored false true (layout 7) (layout 9)

unfoldable pub other_stored_boats : Trial (Family four other_stored → Demand3 four other_stored)
other_stored_boats = accountability four two other_stored false true (layout 7) (layout 9)

unfoldable pub unnoted_boats : Trial (Family four unnoted → Demand3 four unnoted)
unnoted_boats = accountability four two unnoted false true (layout 7) (layout 9)

-- ---- the dispatcher (document 02, item 6)

abbrev pub eight : Eight
eight = record { round = 12 ∷ 3 ∷ 700 ∷ 1023 ∷ 0 ∷ 41 ∷ 5 ∷ 99 ∷ [] }

-- in the last lane 16 tickets and one more, a turn, and a ticket for the place given out
unfoldable pub refilled : Trial InOrder
refilled = in_order eight (map (adds 99) (1 ∷ 2 ∷ 3 ∷ 4 ∷ 5 ∷ 6 ∷ 7 ∷ 8 ∷ 9 ∷ 10 ∷ 11 ∷ 12 ∷ 13 ∷ 14 ∷ 15 ∷ 16 ∷ 17 ∷ []) ++ turn ∷ adds 99 18 ∷ []) 7

-- a turn with no ticket waiting; then a lane is served twice, and waits with two that never were
abbrev pub with_newcomers : List DispatcherCall
with_newcomers = turn ∷ adds 3 1 ∷ adds 3 2 ∷ adds 3 3 ∷ turn ∷ turn ∷ adds 12 4 ∷ adds 700 5 ∷ []

unfoldable pub served_twice : Trial StaysPossible
served_twice = stays_possible eight with_newcomers

abbrev pub every_lane : List ℕ
every_lane = 0 ∷ 1 ∷ 2 ∷ 3 ∷ 4 ∷ 5 ∷ 6 ∷ 7 ∷ []

unfoldable pub newcomers : Trial ServesLongestAgo
newcomers = serves_longest_ago eight with_newcomers every_lane

-- two lanes are served, and wait again
unfoldable pub wait_again : Trial ServesLongestAgo
wait_again = serves_longest_ago eight (adds 3 1 ∷ adds 12 2 ∷ turn ∷ turn ∷ adds 3 3 ∷ adds 12 4 ∷ []) every_lane

-- every lane waits, that of the lowest round with two tickets; the one of the highest waits through some turns
abbrev pub highest_waits : ℕ → Trial WaitsAtMostSeven
highest_waits n = waits_at_most eight (map (λ round. adds round round) (0 ∷ eight.round)) 3 (replicate n turn)

unfoldable pub seven_turns : Trial WaitsAtMostSeven
seven_turns = highest_waits 7

unfoldable pub eight_turns : Trial WaitsAtMostSeven
eight_turns = highest_waits 8

-- a name that unfolds every definition of a run
unfoldable pub unfolded_trials : Bool
unfolding unfolded unfolded_dispatching outcome begins after after_all is_submit is_notice worth count most frame_length written_over refusal_of came_to all_messages found entry_sized same_pair pair_sized values_sized well_formed is_notice_of is_evidence_on first_pack new_form apart is_message readable is_step_of is_submit_of message_in same_signed sent_in same_saved is_newest none_saved wrote allowed allowed_all is_honest all formed submits reached confirms must_reach have_reached names_enough blames first_pays accuses made_on shared_guilty heard_guilty given_guilty own_guilty at_most sends_one readable_all possible_each shared_are_guilty guilty_once writes_new_form first_pack_pays computed accountability safety own_number ◌before◌ joins_two refuses_as_alone those sent_by certified certified_each two three kept_by saved_at seven nine divided forewarned witnessed short_stored short_outed unheard unsigned submitting twice holding kept_other kept_unsigned heard_twice joins_both joins_unsigned joins_equal answering sharing slow third own_third interrupted hasty blank newest older same_stored other_stored unnoted
unfolded_trials = true
