-- One pack for the harbour office (document 02, item 5), in a fleet of 4: packs that name some of the same seats are joined, in either order
-- and one after another. Computed with the toy signature check (`trials/specs/Toy: toy`). At the end the claims, as they are proved, for
-- these packs, and an honest unit that joins two.
-- Assumes nothing.
use Rattle.std.specs.Prelude.{ℕ, ◌≡◌, refl, true, List, [], ◌∷◌, replicate}
use mathlib.Core.List.Memᴰ
use Rattle.std.proofs.Common.{arith}
use Rattle.protocol.specs.Layout.{joined_out_length}
use Rattle.protocol.specs.Calls.{Making, joining, evidence_check}
use Rattle.round.specs.Round.{Each, InHand, making_of, MakesEvidence, Names}
use Rattle.round.specs.Joins.{Handed, IsPack, joined, IsJoined, joined_many, packs_of, IsJoinedMany}
use Rattle.reading.specs.ListsLaws.{each_nil, each_cons}
use Rattle.claims.specs.Joined.{joined-accepted, join-many}
use Rattle.trials.specs.Toy.{toy, keys, pair_by}
use Rattle.trials.specs.Tests.{made_on-says}
use Rattle.trials.specs.Trials.{unfolded_trials, four, twice_given, joins, pack_of, joins_both, first_of_two, second_of_two, second_old}

abbrev room : List ℕ
room = replicate (joined_out_length 4) 0

abbrev join : List ℕ → List ℕ → Making
join a b = joining toy 4 5 (keys 4) a b room

-- ---- two packs

-- `first_of_two` names seats 0 and 1, by the layouts 7 and 9; `second_of_two` names seats 1 and 3, by the layouts 7 and 8. Seat 1 has the pair of
-- the pack named first.
pub first_named_first : join first_of_two second_of_two ≡ record { refusal = 0; written = pack_of (pair_by 7 9 0 ∷ pair_by 7 9 1 ∷ pair_by 7 8 3 ∷ []) }
unfolding unfolded_trials
first_named_first = refl

pub second-named_first : join second_of_two first_of_two ≡ record { refusal = 0; written = pack_of (pair_by 7 9 0 ∷ pair_by 7 8 1 ∷ pair_by 7 8 3 ∷ []) }
unfolding unfolded_trials
second-named_first = refl

-- The check accepts what is joined, and answers the union.
pub joined_is_accepted : evidence_check toy 4 5 (keys 4) (joined four first_of_two second_of_two room) ≡ record { number = 0; mask = 0b1011 }
unfolding unfolded_trials
joined_is_accepted = refl

-- A pack joined with itself is given back.
pub with_itself : join first_of_two first_of_two ≡ record { refusal = 0; written = first_of_two }
unfolding unfolded_trials
with_itself = refl

-- ---- refusals

-- alone it is refused as 15: its values are equal
abbrev equal_pack : List ℕ
equal_pack = pack_of (twice_given 7 7 ∷ [])

-- A 0x05 pack is 9, in either place. The first pack's 15 comes before the second's 9, and the first's 9 before the second's 15; 7 comes before
-- both.
pub refusals : ◌≡◌ {A = List ℕ}
    ((join first_of_two second_old).refusal
    ∷ (join second_old first_of_two).refusal
    ∷ (join equal_pack second_old).refusal
    ∷ (join second_old equal_pack).refusal
    ∷ (joining toy 4 5 (keys 4) second_old equal_pack []).refusal
    ∷ [])
    (9 ∷ 9 ∷ 15 ∷ 9 ∷ 7 ∷ [])
unfolding unfolded_trials
refusals = refl

-- ---- three packs

-- the third names seats 2 and 3, by the layouts 8 and 9
abbrev third_pack : List ℕ
third_pack = pack_of (pair_by 8 9 2 ∷ pair_by 8 9 3 ∷ [])

abbrev handed_in : List Handed
handed_in = record { pack = second_of_two; out = room } ∷ record { pack = third_pack; out = room } ∷ []

-- Each seat has the pair of the first pack that names it.
pub all_three : joined_many four first_of_two handed_in ≡ pack_of (pair_by 7 9 0 ∷ pair_by 7 9 1 ∷ pair_by 8 9 2 ∷ pair_by 7 8 3 ∷ [])
unfolding unfolded_trials joined_many
all_three = refl

-- ---- the claims hold of these

pub two_claimed : IsJoined four first_of_two second_of_two (joined four first_of_two second_of_two room)
unfolding unfolded_trials
two_claimed = (joined-accepted four).becomes first_of_two second_of_two room refl

packs : Each (IsPack four) (packs_of four first_of_two handed_in)
unfolding unfolded_trials
packs =
    each_cons (IsPack four) first_of_two _ (record { accepted = refl; form = refl })
    (each_cons (IsPack four) second_of_two _ (record { accepted = refl; form = refl }) (each_cons (IsPack four) third_pack _ (record { accepted = refl; form = refl }) (each_nil (IsPack four))))

pub three_claimed : IsJoinedMany four first_of_two handed_in
unfolding unfolded_trials
three_claimed = join-many four first_of_two handed_in packs (each_cons _ _ _ (omega arith) (each_cons _ _ _ (omega arith) (each_nil _)))

-- ---- an honest unit joins two packs that it has in hand (`trials/specs/Trials: joins_both`; its answers are in `Trials`)

abbrev in_hand : InHand
in_hand = joins (pack_of (pair_by 7 9 0 ∷ [])) (pack_of (pair_by 7 8 0 ∷ pair_by 7 8 3 ∷ []))

pub unit-joins : MakesEvidence four (joins_both true) (making_of four in_hand) × Names four (making_of four in_hand) 3
unfolding unfolded_trials
unit-joins = made_on-says four (joins_both true) in_hand 3 (Memᴰ.head refl) refl
