-- Small runs of the machine, computed: its actions and the messages sent for them.
-- Assumes nothing.
use Rattle.std.specs.Prelude.{ℕ, ◌<◌, ◌≡◌, refl, Bool, true, List, [], ◌∷◌, eqb, get_or, replicate}
use Rattle.std.proofs.Common.{ap, arith}
use Rattle.octets.specs.Strings.{same}
use Rattle.quorum.specs.Quorum.{t0, k, bit, In, union, with, seats}
use Rattle.protocol.specs.Values.{is_lower}
use Rattle.protocol.specs.Entries.{form_seats}
use Rattle.protocol.specs.Message.{Entry, Pair, ValuesEach, Full, Evidence, full_form}
use Rattle.protocol.specs.Certificate.{set_of, signature_of, certificate_of, entries_of, full_of, pairs_of, ordered_evidence, evidence_of}
use Rattle.protocol.specs.Refusals.{every}
use Rattle.round.specs.Round.{Each}
use Rattle.reading.specs.ListsLaws.{each_one, each_cons}
use Rattle.paper.specs.Machine.{FullCertificate, Machine, init, Event, Submitted, SubmitDelivered, NoticeDelivered, FullDelivered, Action, BroadcastSubmit, ConfirmAndNotice, BroadcastFull, Detect, act, is_some, is_own, own_value, is_from, first_from, distinct, other, pair_or, conflict, is_in, is_empty, newly, shows_more, is_full_certificate, own_full, is_collected, collecting, keeping, upon_submit_delivered, taking_up, taking_up_below, upon_submit, upon_notice_delivered, obtain, upon_full_delivered, confirming, upon_quorum, sending, upon_notices_conflict, detecting, upon_conflict, upon_conflicts, upon_conflicts_in, upon_fulls_conflict, upon_event, upon_rules, react, Says}
use Rattle.paper.specs.Memory.{seats_in}
use Rattle.paper.specs.Spoken.{spoken, Formed, spoken-says}

-- toy signature check: a signature's first byte is its seat
abbrev toy : ℕ → List ℕ → List ℕ → Bool
toy seat value signature = eqb (get_or signature 0 0) seat

-- actions of the machine of seat 0 in a fleet of n, event by event
unfoldable does : ℕ → Machine → List Event → List (List Action)
does n m [] = []
does n m (e ∷ es) = (react toy n 0 e m).actions ∷ does n (react toy n 0 e m).machine es

-- a name that unfolds every definition
unfolded : Bool
unfolding does t0 k same every init act is_some is_own own_value is_from distinct other pair_or conflict is_in is_empty newly shows_more is_full_certificate own_full is_collected collecting keeping upon_submit_delivered first_from taking_up taking_up_below upon_submit upon_notice_delivered obtain upon_full_delivered confirming upon_quorum sending upon_notices_conflict detecting upon_conflict upon_conflicts upon_conflicts_in upon_fulls_conflict upon_event upon_rules react
unfolded = true

abbrev seven : List ℕ
seven = 7 ∷ []

abbrev nine : List ℕ
nine = 9 ∷ []

abbrev entry : ℕ → Entry
entry seat = record { seat = seat; signature = seat ∷ [] }

abbrev hears : ℕ → List ℕ → Event
hears seat value = SubmitDelivered seat value (seat ∷ [])

abbrev by : List ℕ → ℕ → ℕ → ℕ → FullCertificate
by value s t u = record { value = value; entries = entry s ∷ entry t ∷ entry u ∷ [] }

-- ---- a unit confirms, hears of another value, and detects

-- a seat heard twice, a seat with another value and a fourth seat after three change nothing that is sent; neither does a third
-- certificate that conflicts and shows no more. One that shows a further seat does, once; (10)
confirms_then_detects : does 4 init (
    Submitted seven (0 ∷ [])
    ∷ hears 2 seven
    ∷ hears 2 seven
    ∷ hears 1 nine
    ∷ hears 3 seven
    ∷ hears 1 seven
    ∷ NoticeDelivered seven
    ∷ NoticeDelivered nine
    ∷ NoticeDelivered nine
    ∷ FullDelivered (by nine 1 2 3)
    ∷ FullDelivered (by (5 ∷ []) 1 2 3)
    ∷ FullDelivered (by (5 ∷ []) 0 1 2)
    ∷ FullDelivered (by (5 ∷ []) 0 1 3)
    ∷ []
    ) ≡ (BroadcastSubmit seven (0 ∷ []) ∷ [])
    ∷ []
    ∷ []
    ∷ []
    ∷ (ConfirmAndNotice seven ∷ [])
    ∷ []
    ∷ []
    ∷ (BroadcastFull (by seven 0 2 3) ∷ [])
    ∷ []
    ∷ (Detect (by seven 0 2 3) (by nine 1 2 3) (2 ∷ 3 ∷ []) ∷ [])
    ∷ []
    ∷ (Detect (by seven 0 2 3) (by (5 ∷ []) 0 1 2) (0 ∷ []) ∷ [])
    ∷ []
    ∷ []
unfolding unfolded
confirms_then_detects = refl

-- ---- a unit hears before it submits

-- a certificate with a message that isn't properly signed is discarded; values noticed and certificates obtained before the own
-- submission count when the unit confirms, and a SUBMIT that came before it is collected at it
hears_before_submitting : does 4 init (
    hears 2 seven
    ∷ FullDelivered (by nine 1 2 3)
    ∷ FullDelivered (by nine 0 1 2)
    ∷ FullDelivered (record { value = seven; entries = entry 1 ∷ entry 2 ∷ record { seat = 3; signature = 1 ∷ [] } ∷ [] })
    ∷ Submitted seven (0 ∷ [])
    ∷ hears 3 seven
    ∷ hears 2 seven
    ∷ []
    ) ≡ []
    ∷ []
    ∷ []
    ∷ []
    ∷ (BroadcastSubmit seven (0 ∷ []) ∷ [])
    ∷ (ConfirmAndNotice seven ∷ BroadcastFull (by seven 0 2 3) ∷ Detect (by nine 1 2 3) (by seven 0 2 3) (2 ∷ 3 ∷ []) ∷ [])
    ∷ []
    ∷ []
unfolding unfolded
hears_before_submitting = refl

-- three SUBMITs before the submission: at it the unit confirms, from its own and the first two in rising seat order. The own seat's
-- isn't taken up, and neither is one that isn't properly signed.
confirms_at_once : does 4 init (
    hears 3 seven
    ∷ hears 0 seven
    ∷ SubmitDelivered 1 seven (2 ∷ [])
    ∷ hears 2 seven
    ∷ hears 1 seven
    ∷ Submitted seven (0 ∷ [])
    ∷ NoticeDelivered nine
    ∷ []
    ) ≡ []
    ∷ []
    ∷ []
    ∷ []
    ∷ []
    ∷ (BroadcastSubmit seven (0 ∷ []) ∷ ConfirmAndNotice seven ∷ [])
    ∷ (BroadcastFull (by seven 0 1 2) ∷ [])
    ∷ []
unfolding unfolded
confirms_at_once = refl

-- of a seat that sent two, the first counts: seat 1's is of another value. Sent once more, it is collected like any other.
first_of-a-seat : does 4 init (
    hears 1 nine
    ∷ hears 1 seven
    ∷ hears 2 seven
    ∷ Submitted seven (0 ∷ [])
    ∷ hears 1 seven
    ∷ []
    ) ≡ []
    ∷ []
    ∷ []
    ∷ (BroadcastSubmit seven (0 ∷ []) ∷ [])
    ∷ (ConfirmAndNotice seven ∷ [])
    ∷ []
unfolding unfolded
first_of-a-seat = refl

-- ---- "With n = 1, submit confirms in the same call."

one-seat : does 1 init (Submitted seven (0 ∷ []) ∷ []) ≡ (BroadcastSubmit seven (0 ∷ []) ∷ ConfirmAndNotice seven ∷ []) ∷ []
unfolding unfolded
one-seat = refl

-- ---- messages sent

abbrev long : ℕ → List ℕ
long b = replicate 32 b

abbrev signed_by : ℕ → ℕ → Entry
signed_by b seat = record { seat = seat; signature = seat ∷ b ∷ [] }

abbrev three : ℕ → ℕ → ℕ → ℕ → FullCertificate
three b s t u = record { value = long b; entries = signed_by b s ∷ signed_by b t ∷ signed_by b u ∷ [] }

below : (b s t u : ℕ) → s < 4 → t < 4 → u < 4 → Each (λ (e : Entry). e.seat < 4) (three b s t u).entries
below b s t u h i j =
    let P : Entry → Type 0 = λ e. e.seat < 4 in
    each_cons P (signed_by b s) (signed_by b t ∷ signed_by b u ∷ []) h (each_cons P (signed_by b t) (signed_by b u ∷ []) i (each_one P (signed_by b u) j))

formed : (b s t u : ℕ) → s < 4 → t < 4 → u < 4 → distinct (three b s t u).entries ≡ true → Formed 4 (three b s t u)
formed b s t u h i j d = record { sized = refl; below = below b s t u h i j; apart = d }

-- a name that unfolds every definition of a message sent
unfolded_sent : Bool
unfolding bit union with seats is_lower set_of signature_of certificate_of form_seats full_form entries_of full_of pairs_of ordered_evidence evidence_of distinct is_from seats_in spoken
unfolded_sent = true

-- a certificate whose entries came in another order is sent with seats rising
full_in_order : Says 5 0 (BroadcastFull (three 7 0 3 2)) (Full 5 0 (long 7) (signed_by 7 0 ∷ signed_by 7 2 ∷ signed_by 7 3 ∷ []))
unfolding unfolded_sent
full_in_order = spoken-says 4 5 0 (BroadcastFull (three 7 0 3 2)) (formed 7 0 3 2 (omega arith) (omega arith) (omega arith) refl)

-- a seat's two signatures, over 7 and over 9
abbrev both : ℕ → Pair
both seat = record { seat = seat; lower_value = long 7; higher_value = long 9; lower = (signed_by 7 seat).signature; higher = (signed_by 9 seat).signature }

-- the evidence of two certificates has the seats detected, with the signature over the lower value first
evidence_of-both : Says 5 0 (Detect (three 9 1 2 3) (three 7 0 3 2) (3 ∷ 2 ∷ [])) (Evidence 5 ValuesEach (both 2 ∷ both 3 ∷ []))
unfolding unfolded_sent
evidence_of-both =
    let Both : ℕ → Type 0 = λ s. In s (seats_in (three 9 1 2 3).entries) × In s (seats_in (three 7 0 3 2).entries) in
    spoken-says 4 5 0 (Detect (three 9 1 2 3) (three 7 0 3 2) (3 ∷ 2 ∷ [])) (
      formed 9 1 2 3 (omega arith) (omega arith) (omega arith) refl,
      formed 7 0 3 2 (omega arith) (omega arith) (omega arith) refl,
      λ e. let first = ap (λ (v : List ℕ). get_or v 0 0) e in omega arith,
      each_cons Both 3 (2 ∷ []) (refl, refl) (each_one Both 2 (refl, refl)),
    )
