-- More culprits as more certificates come in (document 02, item 3): a fleet of 7, in which t0 is 2 and a certificate has k = 5 seats. The boats of
-- seats 0 to 4 sign the layouts 7, 8 and 9. Seats 5 and 6 are honest, and sign the layout 9. Computed with the toy signature check
-- (`trials/specs/Toy: toy`). At the end the claims, as they are proved, for these two runs.
-- Assumes nothing.
use Rattle.std.specs.Prelude.{ℕ, ◌≡◌, refl, List, [], ◌∷◌, map, replicate}
use Rattle.protocol.specs.Layout.{store_length, out_length}
use Rattle.protocol.specs.Message.{ValuesEach, Message, Notice, Full, Evidence, render}
use Rattle.protocol.specs.Calls.{evidence_check}
use Rattle.round.specs.Round.{Setting, Call, BySubmit, ByStep, Boat, IsHonest, list_of, unbroken}
use Rattle.round.specs.Culprits.{unit_of, MoreCulprits}
use Rattle.reading.specs.UnbrokenLaws.{unbroken-honest}
use Rattle.reading.specs.Messages.{messages}
use Rattle.claims.specs.Culprits.{more_culprits}
use Rattle.trials.specs.Toy.{toy, layout, sign, keys, submit_by, entry_by, pair_by}
use Rattle.trials.specs.Trials.{unfolded_trials}

abbrev seven : Setting
seven = record { n = 7; round = 5; keys = keys 7; checks = toy }

abbrev room : List ℕ
room = replicate (out_length 7) 0

abbrev hears : Message → Call
hears m = ByStep (render m) room

-- a certificate: its layout, the boat that sends it, and its five seats
abbrev certificate : ℕ → ℕ → List ℕ → Message
certificate b sender seats = Full 5 sender (layout b) (map (entry_by b) seats)

-- the unit of seat 6
abbrev boat : List Call → Boat
boat calls = unbroken 6 (replicate (store_length 7) 1) calls []

honest : (calls : List Call) → IsHonest seven (boat calls)
unfolding unfolded_trials
honest calls = unbroken-honest seven 6 (boat calls).store calls [] refl

-- messages that the unit writes, call by call
abbrev written_by : Boat → List (List Message)
written_by u = map (messages seven) (list_of seven u)

-- ---- three certificates heard, and a fourth

-- It submits the layout 9. It hears of the layout 7, with seats 0 to 4; of the layout 9, with seats 0, 1, 2, 5 and 6; of the layout 9 from
-- another boat, with seats 2 to 6; and of the layout 8, with seats 0 to 4 again.
abbrev heard : List Call
heard =
    BySubmit (layout 9) (sign 6 9) room
    ∷ hears (certificate 7 0 (0 ∷ 1 ∷ 2 ∷ 3 ∷ 4 ∷ []))
    ∷ hears (certificate 9 0 (0 ∷ 1 ∷ 2 ∷ 5 ∷ 6 ∷ []))
    ∷ hears (certificate 9 5 (2 ∷ 3 ∷ 4 ∷ 5 ∷ 6 ∷ []))
    ∷ hears (certificate 8 1 (0 ∷ 1 ∷ 2 ∷ 3 ∷ 4 ∷ []))
    ∷ []

-- The first is held, and nothing is written. The second shares seats 0, 1 and 2 with it, t0 + 1 seats, and a pack names these. The third
-- shares seats 2, 3 and 4 with the first: seat 2 is guilty already, and the second pack names the two further boats alone. The fourth
-- shares all five, which adds none: nothing is written.
abbrev first_pack : Message
first_pack = Evidence 5 ValuesEach (pair_by 7 9 0 ∷ pair_by 7 9 1 ∷ pair_by 7 9 2 ∷ [])

abbrev second_pack : Message
second_pack = Evidence 5 ValuesEach (pair_by 7 9 3 ∷ pair_by 7 9 4 ∷ [])

pub third-heard : written_by (boat heard) ≡ (submit_by 6 9 ∷ []) ∷ [] ∷ (first_pack ∷ []) ∷ (second_pack ∷ []) ∷ [] ∷ []
unfolding unfolded_trials
third-heard = refl

-- All five boats that signed twice are guilty, and no other.
pub five_are_guilty : (unit_of seven (boat heard)).guilty ≡ 0b0011111
unfolding unfolded_trials
five_are_guilty = refl

-- Every unit accepts each pack by itself, and the check answers the seats that it names. The second names fewer than t0 + 1.
pub first_is_accepted : evidence_check toy 7 5 (keys 7) (render first_pack) ≡ record { number = 0; mask = 0b0000111 }
unfolding unfolded_trials
first_is_accepted = refl

pub second_is_accepted : evidence_check toy 7 5 (keys 7) (render second_pack) ≡ record { number = 0; mask = 0b0011000 }
unfolding unfolded_trials
second_is_accepted = refl

-- ---- the own certificate comes third

-- It submits the layout 9, and hears the first two certificates and the SUBMITs of seats 2 to 5.
abbrev submits : List Call
submits =
    BySubmit (layout 9) (sign 6 9) room
    ∷ hears (certificate 7 0 (0 ∷ 1 ∷ 2 ∷ 3 ∷ 4 ∷ []))
    ∷ hears (certificate 9 0 (0 ∷ 1 ∷ 2 ∷ 5 ∷ 6 ∷ []))
    ∷ hears (submit_by 2 9)
    ∷ hears (submit_by 3 9)
    ∷ hears (submit_by 4 9)
    ∷ hears (submit_by 5 9)
    ∷ []

-- With the fifth signature the unit confirms. Its own certificate, with seats 2 to 6, names the two further boats.
pub own-third : written_by (boat submits)
    ≡ (submit_by 6 9 ∷ []) ∷ [] ∷ (first_pack ∷ []) ∷ [] ∷ [] ∷ [] ∷ (Notice 5 6 (layout 9) ∷ certificate 9 6 (2 ∷ 3 ∷ 4 ∷ 5 ∷ 6 ∷ []) ∷ second_pack ∷ []) ∷ []
unfolding unfolded_trials
own-third = refl

-- ---- the claims hold of both

pub claims_hold : MoreCulprits seven (boat heard) × MoreCulprits seven (boat submits)
claims_hold = (more_culprits seven (boat heard) (honest heard), more_culprits seven (boat submits) (honest submits))
