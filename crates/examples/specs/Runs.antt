-- Small runs of whole calls, computed.
-- Assumes nothing.
use Rattle.std.specs.Prelude.{ℕ, ◌-◌, ◌*◌, Bool, true, false, not, ◌&&◌, List, [], ◌∷◌, ◌++◌, T, eqb, length, drop, replicate}
use Rattle.quorum.specs.Quorum.{seats}
use Rattle.octets.specs.Strings.{same}
use Rattle.protocol.specs.Layout.{signature_length, store_length, out_length, evidence_out_length}
use Rattle.protocol.specs.Message.{Entry, Pair, PackForm, ValuesOnce, ValuesEach, Message, Submit, Notice, Full, Evidence, render, render_all}
use Rattle.protocol.specs.declared.Record.{Record}
use Rattle.protocol.specs.Record.{with_own, with_confirmed, with_notices, with_first, with_sent, with_guilty, with_kept, fresh, zeros, impossible}
use Rattle.protocol.specs.Step.{submitted}
use Rattle.protocol.specs.Calls.{opening, Result, submit, step, making, made, evidence_check, lower_certificate}
use Rattle.trials.specs.Toy.{unfolded, toy, layout, sign, keys, submit_by, entry_by, full_by, pair_by}

-- ---- calls of the runs

-- the unit of seat 0 among n in round 5, after an opening and before its first call
abbrev opened : ℕ → Result
opened n = record { refusal = 0; unit = fresh n 0 5; store = replicate (store_length n) 1; written = [] }

abbrev room : ℕ → List ℕ
room length = replicate length 0

abbrev submits : Result → ℕ → Result
submits r b = submit toy (keys r.unit.n) r.unit r.store (layout b) (sign 0 b) (room (out_length 4))

abbrev given : Result → List ℕ → Result
given r bytes = step toy (keys r.unit.n) r.unit r.store bytes (room (out_length 4))

abbrev hears : Result → Message → Result
hears r m = given r (render m)

-- ---- results of the runs

-- the store of n seats with these slots at its start and the others as they were
abbrev store_with : ℕ → List ℕ → List ℕ
store_with n slots = slots ++ replicate (store_length n - length slots) 1

-- whether a call isn't refused and writes these messages
abbrev writes : Result → List Message → Bool
writes r ms = eqb r.refusal 0 && same r.written (render_all ms)

-- whether a call is refused by this number and writes nothing
abbrev refuses : Result → ℕ → Bool
refuses r number = eqb r.refusal number && eqb (length r.written) 0

-- "With n = 1, submit confirms in the same call", and the own certificate is held
alone : Bool
unfolding unfolded
alone =
    let r = submits (opened 1) 7 in
    writes r (submit_by 0 7 ∷ Notice 5 0 (layout 7) ∷ [])
    && r.unit.confirmed
    && eqb r.unit.own.collected 1
    && eqb r.unit.first.seats 1
    && eqb r.unit.notices.heard 1
    && not r.unit.sent
    && same r.store (store_with 1 (sign 0 7 ++ sign 0 7))

alone_run : T alone
unfolding alone
alone_run = tt

-- three of four confirm; another signature of a known seat, a SUBMIT of another value and one that comes late change nothing
three_confirm : Bool
unfolding unfolded
three_confirm =
    let a = submits (opened 4) 7 in
    let b = hears a (submit_by 2 7) in
    let c = hears b (Submit 5 2 (layout 7) (2 ∷ 7 ∷ replicate (signature_length - 2) 3)) in
    let d = hears c (submit_by 1 9) in
    let e = hears d (submit_by 3 7) in
    let f = hears e (submit_by 1 7) in
    writes a (submit_by 0 7 ∷ [])
    && writes b []
    && writes c []
    && writes d []
    && eqb d.unit.own.collected 5
    && writes e (Notice 5 0 (layout 7) ∷ [])
    && writes f []
    && f.unit.confirmed
    && not f.unit.sent
    && eqb f.unit.own.collected 13
    && eqb f.unit.first.seats 13
    && same f.store (store_with 4 (sign 0 7 ++ replicate signature_length 1 ++ sign 2 7 ++ sign 3 7 ++ sign 0 7 ++ replicate signature_length 1 ++ sign 2 7 ++ sign 3 7))

three_confirm_run : T three_confirm
unfolding three_confirm
three_confirm_run = tt

-- "Forgetting notices heard before the own submit, so that FULL is never sent." It is sent with the confirmation, once.
notice_first : Bool
unfolding unfolded
notice_first =
    let a = hears (opened 4) (Notice 5 3 (layout 9)) in
    let b = hears (hears (submits a 7) (submit_by 1 7)) (submit_by 2 7) in
    let c = hears b (Notice 5 3 (layout 9)) in
    writes a []
    && eqb a.unit.notices.heard 1
    && writes b (Notice 5 0 (layout 7) ∷ full_by 7 0 1 2 ∷ [])
    && eqb b.unit.notices.heard 2
    && same b.unit.notices.value (layout 9)
    && writes c []

notice_first_run : T notice_first
unfolding notice_first
notice_first_run = tt

-- ---- SUBMITs heard before the own submit

-- slots that no call has written
abbrev unwritten : ℕ → List ℕ
unwritten slots = replicate (slots * signature_length) 1

-- two kept SUBMITs of the own value are collected at the own submit, and the unit confirms in that very call; then none is kept
kept_confirm : Bool
unfolding unfolded
kept_confirm =
    let a = hears (opened 4) (submit_by 3 7) in
    let b = hears a (submit_by 1 7) in
    let c = submits b 7 in
    let collected = sign 0 7 ++ sign 1 7 ++ unwritten 1 ++ sign 3 7 in
    let kept = unwritten 1 ++ sign 1 7 ++ unwritten 1 ++ sign 3 7 ++ layout 1 ++ layout 7 ++ layout 1 ++ layout 7 in
    writes a []
    && eqb a.unit.kept 8
    && writes b []
    && eqb b.unit.kept 10
    && not b.unit.own.submitted
    && same b.store (unwritten 8 ++ kept)
    && writes c (submit_by 0 7 ∷ Notice 5 0 (layout 7) ∷ [])
    && c.unit.confirmed
    && eqb c.unit.own.collected 11
    && eqb c.unit.first.seats 11
    && eqb c.unit.kept 0
    && same c.store (collected ++ collected ++ kept)

kept_confirm_run : T kept_confirm
unfolding kept_confirm
kept_confirm_run = tt

-- a kept SUBMIT of another value, and the own seat's, are passed over; that seat's signature over the own value is collected later
kept_passed_over : Bool
unfolding unfolded
kept_passed_over =
    let a = hears (hears (hears (opened 4) (submit_by 0 7)) (submit_by 1 9)) (submit_by 2 7) in
    let b = submits a 7 in
    let c = hears b (submit_by 1 7) in
    eqb a.unit.kept 7
    && writes b (submit_by 0 7 ∷ [])
    && eqb b.unit.own.collected 5
    && eqb b.unit.kept 0
    && writes c (Notice 5 0 (layout 7) ∷ [])
    && eqb c.unit.own.collected 7

kept_passed_over_run : T kept_passed_over
unfolding kept_passed_over
kept_passed_over_run = tt

-- more are kept than k needs: those of the lowest seats are collected
kept_lowest : Bool
unfolding unfolded
kept_lowest =
    let a = hears (hears (hears (opened 4) (submit_by 3 7)) (submit_by 2 7)) (submit_by 1 7) in
    let b = submits a 7 in
    eqb a.unit.kept 14
    && writes b (submit_by 0 7 ∷ Notice 5 0 (layout 7) ∷ [])
    && eqb b.unit.own.collected 7
    && eqb b.unit.kept 0

kept_lowest_run : T kept_lowest
unfolding kept_lowest
kept_lowest_run = tt

-- a second early SUBMIT of a seat is checked and changes nothing
kept_once : Bool
unfolding unfolded
kept_once =
    let a = hears (opened 2) (submit_by 1 7) in
    let b = hears a (submit_by 1 9) in
    writes b []
    && eqb b.unit.kept 2
    && same b.store a.store
    && refuses (hears a (Submit 5 1 (layout 9) (sign 1 7))) 14

kept_once_run : T kept_once
unfolding kept_once
kept_once_run = tt

-- ---- two certificates of four seats: NOTICE, FULL and EVIDENCE in one call

-- the old form of EVIDENCE, with the values of all its pairs
abbrev once : ℕ → ℕ → PackForm
once low high = ValuesOnce (record { lower = layout low; higher = layout high })

abbrev evidence_both : Message
evidence_both = Evidence 5 ValuesEach (pair_by 7 9 1 ∷ pair_by 7 9 2 ∷ [])

-- the unit holds a certificate of the layout 9 and confirms the layout 7; a third certificate adds seat 3, and given again it is answered by
-- nothing
conflict : Bool
unfolding unfolded
conflict =
    let a = hears (opened 4) (full_by 9 1 2 3) in
    let b = hears (submits a 7) (submit_by 1 7) in
    let c = hears b (submit_by 2 7) in
    let d = hears c (full_by 8 1 2 3) in
    let e = hears d (full_by 8 1 2 3) in
    writes a []
    && eqb a.unit.first.seats 14
    && writes b []
    && writes c (Notice 5 0 (layout 7) ∷ full_by 7 0 1 2 ∷ evidence_both ∷ [])
    && eqb c.unit.guilty 6
    && c.unit.sent
    && same c.store (store_with 4 (sign 0 7 ++ sign 1 7 ++ sign 2 7 ++ replicate signature_length 1 ++ replicate signature_length 1 ++ sign 1 9 ++ sign 2 9 ++ sign 3 9))
    && writes d (Evidence 5 ValuesEach (pair_by 8 9 3 ∷ []) ∷ [])
    && eqb d.unit.guilty 14
    && writes e []
    && eqb e.unit.guilty 14

conflict_run : T conflict
unfolding conflict
conflict_run = tt

-- the unit holds a certificate of the layout 9 and keeps two SUBMITs of the layout 7: its submit writes all four messages
kept_conflict : Bool
unfolding unfolded
kept_conflict =
    let a = hears (hears (hears (opened 4) (full_by 9 1 2 3)) (submit_by 1 7)) (submit_by 2 7) in
    let b = submits a 7 in
    writes b (submit_by 0 7 ∷ Notice 5 0 (layout 7) ∷ full_by 7 0 1 2 ∷ evidence_both ∷ [])
    && eqb b.unit.guilty 6

kept_conflict_run : T kept_conflict
unfolding kept_conflict
kept_conflict_run = tt

-- a certificate heard after confirming is answered by FULL and EVIDENCE, whichever value is lower; one of the held value,
-- by other seats, by nothing; two before the own submit, by EVIDENCE alone
heard_conflicts : Bool
unfolding unfolded
heard_conflicts =
    let a = hears (hears (submits (opened 4) 7) (submit_by 1 7)) (submit_by 2 7) in
    let higher = hears a (full_by 9 1 2 3) in
    let lower = hears a (full_by 3 1 2 3) in
    let held = hears a (full_by 7 1 2 3) in
    let silent = hears (hears (opened 4) (full_by 7 0 1 2)) (full_by 9 1 2 3) in
    writes higher (full_by 7 0 1 2 ∷ evidence_both ∷ [])
    && eqb higher.unit.guilty 6
    && writes lower (full_by 7 0 1 2 ∷ Evidence 5 ValuesEach (pair_by 3 7 1 ∷ pair_by 3 7 2 ∷ []) ∷ [])
    && writes held []
    && same held.store a.store
    && eqb held.unit.first.seats 7
    && writes silent (evidence_both ∷ [])
    && eqb silent.unit.guilty 6
    && not silent.unit.sent

heard_conflicts_run : T heard_conflicts
unfolding heard_conflicts
heard_conflicts_run = tt

-- the same EVIDENCE from two certificates in hand, in either order; the seats that the check answers, for the old form too, and for pairs of
-- different layouts; the lower certificate
evidence_calls : Bool
unfolding unfolded
evidence_calls =
    let seven = render (full_by 7 0 1 2) in
    let nine = render (full_by 9 1 2 3) in
    let made1 = making toy 4 5 (keys 4) seven nine (room (evidence_out_length 4)) in
    let made2 = making toy 4 5 (keys 4) nine seven (room (evidence_out_length 4)) in
    let accepts : Message → ℕ → Bool = λ m mask. let check = evidence_check toy 4 5 (keys 4) (render m) in eqb check.number 0 && eqb check.mask mask in
    eqb made1.refusal 0
    && same made1.written (render evidence_both)
    && eqb made2.refusal 0
    && same made2.written (render evidence_both)
    && accepts evidence_both 6
    && accepts (Evidence 5 (once 7 9) (pair_by 7 9 1 ∷ pair_by 7 9 2 ∷ [])) 6
    && accepts (Evidence 5 ValuesEach (pair_by 7 9 0 ∷ pair_by 3 8 3 ∷ [])) 9
    && same (lower_certificate toy 4 5 (keys 4) seven nine) seven
    && same (lower_certificate toy 4 5 (keys 4) nine seven) seven
    && same (lower_certificate toy 4 5 (keys 4) nine nine) []

evidence_calls_run : T evidence_calls
unfolding evidence_calls
evidence_calls_run = tt

-- ---- impossible records

-- records of four seats, one that has confirmed the layout 7, with two guilty seats, and others with one part set

abbrev own_with : Bool → List ℕ → ℕ → Record
own_with submitted value collected = with_own (fresh 4 0 5) (record { submitted = submitted; value = value; collected = collected })

abbrev confirmed_with : ℕ → List ℕ → Record
confirmed_with heard value =
    let own = with_confirmed (own_with true (layout 7) 7) in
    with_guilty (with_first (with_notices own (record { heard = heard; value = value })) (record { value = layout 9; seats = 14 })) 6

abbrev full4 : Record
full4 = with_sent (confirmed_with 2 (layout 9))

abbrev heard_with : ℕ → List ℕ → Record
heard_with heard value = with_notices (fresh 4 0 5) (record { heard = heard; value = value })

abbrev first_with : List ℕ → ℕ → Record
first_with value seats = with_first (fresh 4 0 5) (record { value = value; seats = seats })

possibles : Bool
unfolding unfolded
possibles =
    not (impossible full4)
    && not (impossible (fresh 4 3 1023))
    && not (impossible (fresh 32 31 0))
    && not (impossible (own_with true (layout 0) 3))
    && not (impossible (heard_with 1 (layout 0)))
    && not (impossible (first_with (layout 0) 14))
    && not (impossible (with_kept (fresh 4 0 5) 15))

possibles_run : T possibles
unfolding possibles
possibles_run = tt

impossibles : Bool
unfolding unfolded
impossibles =
    impossible (fresh 0 0 5)
    && impossible (fresh 33 0 5)
    && impossible (fresh 4 4 5)
    && impossible (fresh 4 0 1024)
    && impossible (heard_with 3 (layout 9))
    && impossible (own_with true (layout 7) 17)
    && impossible (first_with (layout 9) 22)
    && impossible (with_guilty full4 22)
    && impossible (own_with false (layout 0) 1)
    && impossible (own_with true (layout 7) 2)
    && impossible (own_with true (layout 7) 15)
    && impossible (own_with true (layout 7) 7)
    && impossible (with_own full4 (record { submitted = true; value = layout 7; collected = 3 }))
    && impossible (first_with (layout 9) 6)
    && impossible (with_guilty (with_first full4 (record { value = layout 0; seats = 0 })) 0)
    && impossible (with_guilty (fresh 4 0 5) 6)
    && impossible (with_guilty full4 1)
    && impossible (with_sent (fresh 4 0 5))
    && impossible (with_kept (fresh 4 0 5) 16)
    && impossible (with_kept (own_with true (layout 7) 1) 2)
    && impossible (own_with false (layout 7) 0)
    && impossible (heard_with 0 (layout 9))
    && impossible (first_with (layout 9) 0)

impossibles_run : T impossibles
unfolding impossibles
impossibles_run = tt

-- possible records that no list of calls reaches: FULL is owed from an earlier call and sent in this one; with no other value heard
-- none is owed
owed : Bool
unfolding unfolded
owed =
    let at : Record → Result = λ r. record { refusal = 0; unit = r; store = replicate (store_length 4) 1; written = [] } in
    let entry : ℕ → Entry = λ seat. record { seat = seat; signature = replicate signature_length 1 } in
    writes (hears (at (confirmed_with 2 (layout 9))) (submit_by 3 7)) (Full 5 0 (layout 7) (entry 0 ∷ entry 1 ∷ entry 2 ∷ []) ∷ [])
    && writes (hears (at (confirmed_with 0 (layout 0))) (submit_by 3 7)) []
    && writes (hears (at (confirmed_with 1 (layout 7))) (submit_by 3 7)) []

owed_run : T owed
unfolding owed
owed_run = tt

-- ---- refusals

openings : Bool
unfolding unfolded
openings =
    let refusal : ℕ → ℕ → ℕ → ℕ = λ n seat round. (opening n seat round (keys 4)).number in
    eqb (refusal 0 0 5) 1
    && eqb (refusal 33 40 5) 1
    && eqb (refusal 4 4 1024) 2
    && eqb (refusal 4 3 1024) 3
    && eqb (refusal 3 0 5) 5
    && eqb (refusal 4 3 1023) 0
    && eqb (opening 4 0 5 (room 224)).number 5
    && eqb (opening 4 4 5 (keys 4)).unit.n 0

openings_run : T openings
unfolding openings
openings_run = tt

submits_refused : Bool
unfolding unfolded
submits_refused =
    let fresh4 = (opened 4).unit in
    let store = (opened 4).store in
    let out = room (out_length 4) in
    refuses (submit toy (keys 4) zeros store (layout 7) (sign 0 7) out) 4
    && refuses (submit toy (keys 3) fresh4 (room 17551) (layout 7) (sign 0 7) out) 5
    && refuses (submit toy (keys 4) fresh4 (room 17551) (layout 7) (sign 0 7) (room 14836)) 6
    && refuses (submit toy (keys 4) fresh4 store (layout 7) (sign 0 7) (room 14836)) 7
    && refuses (submit toy (keys 4) (submits (opened 4) 7).unit store [] [] out) 8
    && refuses (submit toy (keys 4) fresh4 store (replicate 31 7) (sign 0 7) out) 9
    && refuses (submit toy (keys 4) fresh4 store (layout 7) (0 ∷ sign 0 7) out) 9
    && refuses (submit toy (keys 4) fresh4 store (layout 7) (sign 1 7) out) 14

submits_refused_run : T submits_refused
unfolding submits_refused
submits_refused_run = tt

steps_refused : Bool
unfolding unfolded
steps_refused =
    let r = submits (opened 4) 7 in
    refuses (given r []) 9
    && refuses (given r (0x01 ∷ [])) 9
    && refuses (given r (0 ∷ render (Notice 5 3 (layout 9)))) 9
    && refuses (given r (0x04 ∷ replicate 35 0)) 9
    && refuses (hears r evidence_both) 9
    && refuses (hears r (Full 5 1 (layout 9) (entry_by 9 1 ∷ entry_by 9 2 ∷ []))) 9
    && refuses (given r (0x03 ∷ 0 ∷ 5 ∷ 1 ∷ layout 9 ++ 3 ∷ replicate 4362 0)) 9
    && refuses (hears r (Notice 6 4 (layout 9))) 10
    && refuses (hears r (Notice 5 4 (layout 9))) 11
    && refuses (hears r (Full 5 4 (layout 9) (entry_by 9 1 ∷ entry_by 9 2 ∷ entry_by 9 3 ∷ []))) 11
    && refuses (hears r (full_by 9 3 2 4)) 11
    && refuses (hears r (full_by 9 1 3 2)) 12
    && refuses (hears r (full_by 9 1 2 2)) 12
    && refuses (hears (opened 4) (Submit 5 1 (layout 7) (sign 2 7))) 14
    && refuses (hears (opened 4) (submit_by 4 7)) 11
    && refuses (hears r (Submit 5 1 (layout 9) (sign 1 7))) 14
    && refuses (hears r (Full 5 1 (layout 9) (entry_by 9 1 ∷ entry_by 9 2 ∷ entry_by 7 3 ∷ []))) 14

steps_refused_run : T steps_refused
unfolding steps_refused
steps_refused_run = tt

-- 9 to 15 for a pack of either form. 14 comes before 15: the signatures over the layouts 7 and 9 stand in the other order.
abbrev packs_refused : (ℕ → ℕ → PackForm) → Bool
packs_refused form =
    let check : Message → ℕ = λ m. (evidence_check toy 4 5 (keys 4) (render m)).number in
    let crossed : Pair = record { seat = 1; lower_value = layout 9; higher_value = layout 7; lower = sign 1 7; higher = sign 1 9 } in
    eqb (check (Evidence 5 (form 7 9) [])) 9
    && eqb (check (Evidence 6 (form 7 9) (pair_by 7 9 1 ∷ []))) 10
    && eqb (check (Evidence 5 (form 7 9) (pair_by 7 9 4 ∷ []))) 11
    && eqb (check (Evidence 5 (form 7 9) (pair_by 7 9 1 ∷ pair_by 7 9 1 ∷ []))) 12
    && eqb (check (Evidence 5 (form 9 7) (crossed ∷ []))) 14
    && eqb (check (Evidence 5 (form 9 7) (pair_by 9 7 1 ∷ []))) 15
    && eqb (check (Evidence 5 (form 7 7) (pair_by 7 7 1 ∷ []))) 15

old_refused : Bool
unfolding unfolded
old_refused = packs_refused once

old_refused_run : T old_refused
unfolding old_refused
old_refused_run = tt

-- in the new form each entry has values of its own: 15 for any entry, after 14 for any
new_refused : Bool
unfolding unfolded
new_refused =
    let check : List ℕ → ℕ = λ bytes. (evidence_check toy 4 5 (keys 4) bytes).number in
    let unsigned : Pair = record { seat = 2; lower_value = layout 7; higher_value = layout 9; lower = sign 2 7; higher = sign 3 9 } in
    packs_refused (λ low high. ValuesEach)
    && eqb (check (render (Evidence 5 ValuesEach (pair_by 7 9 1 ∷ pair_by 9 9 2 ∷ [])))) 15
    && eqb (check (render (Evidence 5 ValuesEach (pair_by 9 9 1 ∷ unsigned ∷ [])))) 14
    && eqb (check (0x05 ∷ drop 1 (render evidence_both))) 9
    && eqb (check (0x06 ∷ drop 1 (render evidence_both))) 9
    && eqb (check (0x07 ∷ drop 1 (render (Evidence 5 (once 7 9) (pair_by 7 9 1 ∷ []))))) 9

new_refused_run : T new_refused
unfolding new_refused
new_refused_run = tt

evidence_refused : Bool
unfolding unfolded
evidence_refused =
    let seven = render (full_by 7 0 1 2) in
    let bad = render (Full 5 1 (layout 9) (entry_by 9 1 ∷ entry_by 9 2 ∷ entry_by 7 3 ∷ [])) in
    let made : List ℕ → List ℕ → ℕ = λ a b. (making toy 4 5 (keys 4) a b (room (evidence_out_length 4))).refusal in
    eqb (evidence_check toy 33 1024 [] []).number 1
    && eqb (evidence_check toy 4 1024 [] []).number 3
    && eqb (evidence_check toy 4 5 (keys 3) []).number 5
    && eqb (evidence_check toy 4 5 (keys 4) []).number 9
    && eqb (evidence_check toy 4 5 (keys 4) seven).number 9
    && eqb (making toy 4 5 (keys 4) [] [] (room (evidence_out_length 4 - 1))).refusal 7
    && eqb (made bad []) 14
    && eqb (made seven []) 9
    && eqb (made seven bad) 14
    && eqb (made seven seven) 15

evidence_refused_run : T evidence_refused
unfolding evidence_refused
evidence_refused_run = tt
