-- A unit that loses power during its round (document 02, item 2): two honest runs, one from an older note and one with another store.
-- Computed with the toy signature check (`trials/specs/Toy: toy`); that the last two aren't honest is deduced.
-- Assumes nothing.
use Rattle.std.specs.Prelude.{ℕ, ◌≡◌, refl, true, false, replicate}
use Rattle.std.proofs.Common.{sym, ap, subst, true≢false, arith}
use mathlib.Core.List.{List, [], ◌∷◌, map, Memᴰ}
use Rattle.protocol.specs.Layout.{signature_length, store_length}
use Rattle.protocol.specs.Message.{Entry, Pair, ValuesEach, Message, Notice, Full, Evidence, render, byte_at}
use Rattle.protocol.specs.Calls.{opening, evidence_check}
use Rattle.round.specs.Round.{Called, Makes, ComesBack, Boat, IsHonest, result_of, list_of}
use Rattle.claims.specs.Sound.{Any}
use Rattle.claims.specs.Journey.{any-worthy}
use Rattle.claims.specs.Units.{writes-good}
use Rattle.claims.specs.Once.{one-layout-sent}
use Rattle.trials.specs.Toy.{toy, layout, sign, keys, submit_by, full_by, pair_by}
use Rattle.trials.specs.Tests.{sent_in, sent_in-says, is_honest-says, all, formed, member_writes}
use Rattle.trials.specs.Trials.{unfolded_trials, four, pair, hears, does, confirming, keeps, kept_by, saved_at, interrupted, newest, older}

-- ---- power is lost between the note and the sending

-- The unit submits the layout 7, keeps the note and the store, and loses power before it sends. It comes back, sends its SUBMIT, and a submit
-- of the layout 9 is refused with 8: the note knows of the first. A submit before its first note, and a confirmation after a note, are lost
-- and count as never made.
pub interrupted_is_honest : IsHonest pair interrupted
unfolding unfolded_trials
interrupted_is_honest = is_honest-says pair interrupted refl

interrupted-answers : map (λ (c : Called). (result_of pair c).refusal) (list_of pair interrupted) ≡ 0 ∷ 8 ∷ 0 ∷ []
unfolding unfolded_trials
interrupted-answers = refl

interrupted-writes : all pair interrupted ≡ submit_by 0 7 ∷ Notice 5 0 (layout 7) ∷ []
unfolding unfolded_trials
interrupted-writes = refl

-- it sends its SUBMIT twice, the same one
pub interrupted-sends : sent_in interrupted.events ≡ submit_by 0 7 ∷ submit_by 0 7 ∷ Notice 5 0 (layout 7) ∷ []
unfolding unfolded_trials
interrupted-sends = refl

-- ---- an older note

-- The unit of seat 0 keeps the note of its opening, submits the layout 7, keeps and sends. Brought back from the first note, it knows of no
-- submission: it submits the layout 9, keeps and sends.
older-sends : sent_in (older false).events ≡ submit_by 0 7 ∷ submit_by 0 9 ∷ []
unfolding unfolded_trials
older-sends = refl

-- With certificates of both layouts, made of what it sent and of the signatures of seats 2 and 3, the unit of seat 1 writes this pack.
abbrev pack : Message
pack = Evidence 5 ValuesEach (pair_by 7 9 0 ∷ pair_by 7 9 2 ∷ pair_by 7 9 3 ∷ [])

pub older_is_blamed : all four (older true) ≡ pack ∷ []
unfolding unfolded_trials
older_is_blamed = refl

-- every unit accepts it, and it names seat 0
pub pack_is_accepted : evidence_check toy 4 5 (keys 4) (render pack) ≡ record { number = 0; mask = 0b1101 }
unfolding unfolded_trials
pack_is_accepted = refl

-- two layouts sent: not an honest unit
pub older_is_not_honest : IsHonest four (older false) → ⊥
unfolding unfolded_trials
older_is_not_honest h =
    let sent = sent_in-says (older false).events in
    let same = one-layout-sent four (older false) h (submit_by 0 7) (submit_by 0 9) (layout 7) (layout 9) refl refl
    (sent (submit_by 0 7) (Memᴰ.head refl)) (sent (submit_by 0 9) (Memᴰ.tail (Memᴰ.head refl))) in
    let seven_nine : ◌≡◌ {A = ℕ} 7 9 = ap (λ (l : List ℕ). byte_at l 0) same in
    absurd (omega arith)

-- from its newest note it sends the same SUBMIT again, and nobody is blamed
newest_is_not_blamed : all four (newest true) ≡ []
unfolding unfolded_trials
newest_is_not_blamed = refl

-- ---- another store

-- The unit confirms the layout 7 with seats 2 and 3, and keeps note and store. It comes back from the note with another store, and hears that
-- seat 1 has confirmed the layout 9.
abbrev confirmed : Boat
confirmed = does (confirming 0 7) (keeps ∷ [])

abbrev restored : Boat
restored = does confirmed (ComesBack (record { note = (saved_at 0 (kept_by four confirmed)).note; store = replicate (store_length 4) 1 }) ∷ Makes (hears (Notice 5 1 (layout 9))) ∷ Makes (hears (full_by 9 1 2 3)) ∷ [])

-- its FULL and its EVIDENCE have what stands in that store for signatures
abbrev spoilt : List ℕ
spoilt = replicate signature_length 1

abbrev spoilt_entry : ℕ → Entry
spoilt_entry seat = record { seat = seat; signature = spoilt }

abbrev spoilt_full : Message
spoilt_full = Full 5 0 (layout 7) (spoilt_entry 0 ∷ spoilt_entry 2 ∷ spoilt_entry 3 ∷ [])

abbrev spoilt_pair : ℕ → Pair
spoilt_pair seat = record { seat = seat; lower_value = layout 7; higher_value = layout 9; lower = spoilt; higher = sign seat 9 }

abbrev spoilt_evidence : Message
spoilt_evidence = Evidence 5 ValuesEach (spoilt_pair 2 ∷ spoilt_pair 3 ∷ [])

restored-writes : all four restored ≡ submit_by 0 7 ∷ Notice 5 0 (layout 7) ∷ spoilt_full ∷ spoilt_evidence ∷ []
unfolding unfolded_trials
restored-writes = refl

-- the evidence check refuses the EVIDENCE with 14, and so does a unit just opened the FULL
pub evidence_is_refused : evidence_check toy 4 5 (keys 4) (render spoilt_evidence) ≡ record { number = 14; mask = 0 }
unfolding unfolded_trials
evidence_is_refused = refl

pub full_is-refused : (result_of four (record { given = hears spoilt_full; unit = (opening 4 1 5 (keys 4)).unit; store = replicate (store_length 4) 1 })).refusal ≡ 14
unfolding unfolded_trials
full_is-refused = refl

-- an honest unit's FULL has signatures that check
restored-formed : formed four (all four restored) ≡ true
unfolding unfolded_trials
restored-formed = subst (λ ms. formed four ms ≡ true) (sym restored-writes) refl

pub restored_is_not_honest : IsHonest four restored → ⊥
unfolding signature_length
restored_is_not_honest h =
    let writes = member_writes four restored restored-formed spoilt_full (subst (Memᴰ spoilt_full) (sym restored-writes) (Memᴰ.tail (Memᴰ.tail (Memᴰ.head refl)))) in
    let good = writes-good four restored h Any (any-worthy four (list_of four restored)) spoilt_full writes in
    true≢false (sym (good.1.attested (spoilt_entry 0) (Memᴰ.head refl)).checked)
