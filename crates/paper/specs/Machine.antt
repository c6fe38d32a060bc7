-- The accountable confirmer of the ABC paper (source document 002, Algorithm 2) as an abstract machine that forgets nothing: each
-- variable and each `upon` beside its lines, with the changes of documents 01 and 02 at their places.
--
-- Document 01's changes:
-- (1) No threshold signatures: `share`, `lightCertificate_i` and `Combine` of lines 12, 18, 22 and 28 are gone.
-- (2) So "the papers' light certificate becomes an unsigned notice: it proves nothing and only prompts a full certificate": the
--     `if` of line 30 is gone.
-- (3) A full certificate has k = n − t0 messages and no more ("count 1 (always k)"): of a unit's own, the first k.
-- (4) At line 25 the unit "treats its own certificate like one heard", without waiting until its broadcast comes back to it.
-- (5) A FULL heard "counts as a notice for its value".
-- (6) The outputs of `Confirm` and `Detect` are messages, NOTICE and EVIDENCE.
-- (7) At line 18 "the signature [is] collected" in the submit itself, without waiting until its broadcast comes back to it.
-- (8) The own signature comes with the submission, while the paper's unit makes it, and "is checked like any other".
-- Document 02's, item 1:
-- (9) "A SUBMIT heard before the own submit is now checked, and the first good one from each seat is kept with its value": line 20
--     passes over it, since value_i is ⊥. Here it is remembered, and at the submission lines 20 to 23 are done for the first of
--     each seat.
-- Item 3:
-- (10) "The papers detect once; the engine's definition now says each time": the rule of line 39 is tried for each certificate that
--      conflicts with the first one obtained, and detects the processes that weren't detected before.
-- Assumes nothing.
use Rattle.std.specs.Prelude.{ℕ, zero, suc, ◌≡◌, Bool, true, false, cond, not, ◌&&◌, ◌||◌, ◌⊎◌, ◌↔◌, leb, eqb, length, take}
use mathlib.Core.List.{List, [], ◌∷◌, ◌++◌, map, Memᴰ}
use Rattle.std.proofs.Math.Option.{Option, none, some}
use Rattle.octets.specs.Strings.{same}
use Rattle.quorum.specs.Quorum.{k}
use Rattle.protocol.specs.Values.{unset, is_lower}
use Rattle.protocol.specs.Message.{Entry, Pair, ValuesEach, Signed, Message, Submit, Notice, Full, Evidence}
use Rattle.protocol.specs.Refusals.{Checks, every, rising}

-- ---- the state

-- "A set S of properly signed [SUBMIT, v, *] messages": the value, and the seat and signature of each
pub record FullCertificate : Type 0 where
  pub value : List ℕ
  pub entries : List Entry

-- lines 8 to 15, "upon event ⟨ac, Init⟩ do". A list has everything that came, in order.
pub record Machine : Type 0 where
  -- "value_i ← ⊥"
  pub value : Option (List ℕ)
  -- "confirmed_i ← false"
  pub confirmed : Bool
  -- the properly signed SUBMITs that came while value_i was ⊥, all of them; (9)
  pub early : List Signed
  -- "from_i ← ∅" and "fullCertificate_i ← ∅": from_i is the set of its seats
  pub collected : List Entry
  -- "obtainedLightCertificates_i ← ∅": the values of all notices
  pub noticed : List (List ℕ)
  -- "obtainedFullCertificates_i ← ∅": all certificates
  pub obtained : List FullCertificate
  -- "Rules at lines 25, 33 and 39 are activated at most once.": whether line 33's was. Line 25's was where `confirmed` is set.
  pub sent : Bool
  -- the seats of the processes detected; (10)
  pub detected : List ℕ

unfoldable pub init : Machine
init = record { value = none; confirmed = false; early = []; collected = []; noticed = []; obtained = []; sent = false; detected = [] }

-- ---- events and actions

pub data Event : Type 0 where
  -- "⟨ac, Submit | v⟩", with the own signature over it; (8)
  Submitted : (value signature : List ℕ) → Event
  -- "⟨beb, Deliver | P_j, [SUBMIT, value, share]σ_j⟩"
  SubmitDelivered : (seat : ℕ) (value signature : List ℕ) → Event
  -- "⟨beb, Deliver | P_j, [LIGHT-CERTIFICATE, value_j, lightCertificate_j]⟩"; (2)
  NoticeDelivered : (value : List ℕ) → Event
  -- "⟨beb, Deliver | P_j, [FULL-CERTIFICATE, value_j, fullCertificate_j]⟩"
  FullDelivered : FullCertificate → Event

pub data Action : Type 0 where
  -- "trigger ⟨beb, Broadcast | [SUBMIT, v, ShareSign_i(v)]σ_i⟩"
  BroadcastSubmit : (value signature : List ℕ) → Action
  -- "trigger ⟨ac, Confirm | value_i⟩" and "trigger ⟨beb, Broadcast | [LIGHT-CERTIFICATE, value_i, ..]⟩"; (6)
  ConfirmAndNotice : (value : List ℕ) → Action
  -- "trigger ⟨beb, Broadcast | [FULL-CERTIFICATE, value_i, fullCertificate_i]⟩"
  BroadcastFull : FullCertificate → Action
  -- "trigger ⟨ac, Detect | F, proof⟩": the proof is the two certificates, and F are seats that they share; (6)
  Detect : FullCertificate → FullCertificate → (seats : List ℕ) → Action

-- the machine within one event, and its actions so far
pub record Reaction : Type 0 where
  pub machine : Machine
  pub actions : List Action

unfoldable pub act : Action → Reaction → Reaction
act a x = record { machine = x.machine; actions = x.actions ++ a ∷ [] }

-- ---- variables set anew

-- the unit's own: value_i, confirmed_i, and the signatures collected
abbrev pub set_own : Option (List ℕ) → Bool → List Entry → Reaction → Reaction
set_own value confirmed collected x = let m = x.machine in record { machine = record { value = value; confirmed = confirmed; early = m.early; collected = collected; noticed = m.noticed; obtained = m.obtained; sent = m.sent; detected = m.detected }; actions = x.actions }

-- certificates, light and full, whether the rule of line 33 was activated, and the seats detected
abbrev pub set_certificates : List (List ℕ) → List FullCertificate → Bool → List ℕ → Reaction → Reaction
set_certificates noticed obtained sent detected x = let m = x.machine in record { machine = record { value = m.value; confirmed = m.confirmed; early = m.early; collected = m.collected; noticed = noticed; obtained = obtained; sent = sent; detected = detected }; actions = x.actions }

abbrev pub set_value : List ℕ → Reaction → Reaction
set_value v x = let m = x.machine in set_own (some v) m.confirmed m.collected x

abbrev pub set_confirmed : Reaction → Reaction
set_confirmed x = let m = x.machine in set_own m.value true m.collected x

abbrev pub add_collected : Entry → Reaction → Reaction
add_collected e x = let m = x.machine in set_own m.value m.confirmed (m.collected ++ e ∷ []) x

abbrev pub add_early : Signed → Reaction → Reaction
add_early e x = let m = x.machine in record { machine = record { value = m.value; confirmed = m.confirmed; early = m.early ++ e ∷ []; collected = m.collected; noticed = m.noticed; obtained = m.obtained; sent = m.sent; detected = m.detected }; actions = x.actions }

abbrev pub add_noticed : List ℕ → Reaction → Reaction
add_noticed v x = let m = x.machine in set_certificates (m.noticed ++ v ∷ []) m.obtained m.sent m.detected x

abbrev pub add_obtained : FullCertificate → Reaction → Reaction
add_obtained c x = let m = x.machine in set_certificates m.noticed (m.obtained ++ c ∷ []) m.sent m.detected x

abbrev pub set_sent : Reaction → Reaction
set_sent x = let m = x.machine in set_certificates m.noticed m.obtained true m.detected x

abbrev pub add_detected : List ℕ → Reaction → Reaction
add_detected seats x = let m = x.machine in set_certificates m.noticed m.obtained m.sent (m.detected ++ seats) x

-- ---- tests

unfoldable pub is_some {ℓ} : {A : Type ℓ} → Option A → Bool
is_some none = false
is_some (some a) = true

-- "value = value_i"
unfoldable pub is_own : List ℕ → Option (List ℕ) → Bool
is_own v none = false
is_own v (some own) = same v own

-- value_i, once there is one
unfoldable pub own_value : Option (List ℕ) → List ℕ
own_value none = unset
own_value (some own) = own

-- "P_j ∈ from_i"
unfoldable pub is_from : ℕ → List Entry → Bool
is_from seat [] = false
is_from seat (e ∷ es) = eqb e.seat seat || is_from seat es

-- the first message of a seat
unfoldable pub first_from : ℕ → List Signed → Option Signed
first_from seat [] = none
first_from seat (e ∷ es) = cond (eqb e.seat seat) (some e) (first_from seat es)

-- "Each message m is sent (i.e., signed) by a distinct process."
unfoldable pub distinct : List Entry → Bool
distinct [] = true
distinct (e ∷ es) = not (is_from e.seat es) && distinct es

-- "conflicts with .. if and only if v ≠ v'": the first of a list that conflicts with a value
unfoldable pub other {ℓ} : {A : Type ℓ} → (A → List ℕ) → List ℕ → List A → Option A
other value_of v [] = none
other value_of v (x ∷ xs) = cond (same v (value_of x)) (other value_of v xs) (some x)

unfoldable pub pair_or {ℓ} : {A : Type ℓ} → A → Option A → Option (A × A) → Option (A × A)
pair_or x none rest = rest
pair_or x (some y) rest = some (x, y)

-- "certificate_1, certificate_2 ∈ .. where certificate_1 conflicts with certificate_2", of line 33: of any two that conflict, the first pair.
-- It is always the first of the list with the first that conflicts with it: of any two that conflict, one conflicts with the
-- first of the list (`ConflictsLaws: conflict-head`). So the first moment at which any two conflict is that at which one conflicts
-- with the first.
unfoldable pub conflict {ℓ} : {A : Type ℓ} → (A → List ℕ) → List A → Option (A × A)
conflict value_of [] = none
conflict value_of (x ∷ xs) = pair_or x (other value_of (value_of x) xs) (conflict value_of xs)

-- two values conflict where they differ
abbrev pub value_of_notice : List ℕ → List ℕ
value_of_notice v = v

unfoldable pub is_in : ℕ → List ℕ → Bool
is_in seat [] = false
is_in seat (s ∷ ss) = eqb s seat || is_in seat ss

unfoldable pub is_empty : List ℕ → Bool
is_empty [] = true
is_empty (s ∷ ss) = false

-- 40: "proof ← extract proof of culpability of (at least) t0 + 1 processes from certificate_1 and certificate_2"
-- 41: "F ← the set of processes detected via proof": those of both certificates that weren't detected before; (10)
unfoldable pub newly : List ℕ → List Entry → List Entry → List ℕ
newly detected [] ds = []
newly detected (e ∷ es) ds =
    cond (is_from e.seat ds && not (is_in e.seat detected)) (e.seat ∷ newly detected es ds) (newly detected es ds)

-- "where certificate_1 conflicts with certificate_2": their values differ, and there is someone to detect; (10)
unfoldable pub shows_more : List ℕ → FullCertificate → FullCertificate → Bool
shows_more detected c d = not (same c.value d.value) && not (is_empty (newly detected c.entries d.entries))

-- ---- each `upon`: under one signature check, in a fleet of n seats, at a seat

module _ (checks : Checks) (n own : ℕ) where
  -- "a valid full certificate for value v if and only if: a) |S| ≥ n − t0 b) Each message m is sent (i.e., signed) by a distinct
  -- process", of "properly signed" messages
  unfoldable pub is_full_certificate : FullCertificate → Bool
  is_full_certificate c = leb (k n) (length c.entries) && distinct c.entries && every (λ (e : Entry). checks e.seat c.value e.signature) c.entries

  -- the unit's own full certificate; (3)
  unfoldable pub own_full : Machine → FullCertificate
  own_full m = record { value = own_value m.value; entries = take (k n) m.collected }

  -- 6: "Any SUBMIT message that is not properly signed is discarded."
  -- 20: "if ShareVerify_j(value, share) = ⊤ and value = value_i and P_j ∉ from_i then"; (1)
  unfoldable pub is_collected : ℕ → List ℕ → List ℕ → Machine → Bool
  is_collected seat v signature m = checks seat v signature && is_own v m.value && not (is_from seat m.collected)

  -- 21: "from_i ← from_i ∪ {P_j}"
  -- 23: "fullCertificate_i ← fullCertificate_i ∪ {[SUBMIT, value, share]σ_j}"
  unfoldable pub collecting : ℕ → List ℕ → List ℕ → Reaction → Reaction
  collecting seat v signature x =
      cond (is_collected seat v signature x.machine) (add_collected (record { seat = seat; signature = signature }) x) x

  -- a SUBMIT while value_i is ⊥: discarded (line 6) or remembered; (9)
  unfoldable pub keeping : ℕ → List ℕ → List ℕ → Reaction → Reaction
  keeping seat v signature x = cond (checks seat v signature) (add_early (record { seat = seat; value = v; signature = signature }) x) x

  -- 19: "upon event ⟨beb, Deliver | P_j, [SUBMIT, value, share]σ_j⟩ do"
  unfoldable pub upon_submit_delivered : ℕ → List ℕ → List ℕ → Reaction → Reaction
  upon_submit_delivered seat v signature x = cond (is_some x.machine.value) (collecting seat v signature x) (keeping seat v signature x)

  -- lines 20 to 23 for a SUBMIT remembered, if there is one; (9)
  unfoldable pub taking_up : Option Signed → Reaction → Reaction
  taking_up none x = x
  taking_up (some e) x = collecting e.seat e.value e.signature x

  -- "in rising seat order": the same for the first of each seat below a number; (9)
  unfoldable pub taking_up_below : ℕ → List Signed → Reaction → Reaction
  taking_up_below zero early x = x
  taking_up_below (suc seat) early x = taking_up (first_from seat early) (taking_up_below seat early x)

  -- 16: "upon event ⟨ac, Submit | v⟩ do"
  -- 17: "value_i ← v"
  -- 18: "trigger ⟨beb, Broadcast | [SUBMIT, v, ShareSign_i(v)]σ_i⟩"; (7): lines 20 to 23 for the own SUBMIT, at once; then (9)
  unfoldable pub upon_submit : List ℕ → List ℕ → Reaction → Reaction
  upon_submit v signature x = taking_up_below n x.machine.early (collecting own v signature (act (BroadcastSubmit v signature) (set_value v x)))

  -- 29: "upon event ⟨beb, Deliver | P_j, [LIGHT-CERTIFICATE, value_j, lightCertificate_j]⟩ do"
  -- 31: "obtainedLightCertificates_i ← obtainedLightCertificates_i ∪ {[LIGHT-CERTIFICATE, value_j, lightCertificate_j]}"; (2)
  unfoldable pub upon_notice_delivered : List ℕ → Reaction → Reaction
  upon_notice_delivered v x = add_noticed v x

  -- a full certificate, heard or the unit's own; (5), (4)
  unfoldable pub obtain : FullCertificate → Reaction → Reaction
  obtain c x = add_obtained c (upon_notice_delivered c.value x)

  -- 35: "upon event ⟨beb, Deliver | P_j, [FULL-CERTIFICATE, value_j, fullCertificate_j]⟩ do"
  -- 36: "if fullCertificate_j is a valid full certificate for value_j then"
  -- 37: "obtainedFullCertificates_i ← obtainedFullCertificates_i ∪ {fullCertificate_j}"
  unfoldable pub upon_full_delivered : FullCertificate → Reaction → Reaction
  upon_full_delivered c x = cond (is_full_certificate c) (obtain c x) x

  -- 26: "confirmed_i ← true"
  -- 27: "trigger ⟨ac, Confirm | value_i⟩"
  -- 28: "trigger ⟨beb, Broadcast | [LIGHT-CERTIFICATE, value_i, Combine(lightCertificate_i)]⟩"; (1), (4)
  unfoldable pub confirming : Reaction → Reaction
  confirming x = obtain (own_full x.machine) (act (ConfirmAndNotice (own_value x.machine.value)) (set_confirmed x))

  -- 25: "upon |from_i| ≥ n − t0 do"
  unfoldable pub upon_quorum : Reaction → Reaction
  upon_quorum x = cond (not x.machine.confirmed && leb (k n) (length x.machine.collected)) (confirming x) x

  -- 34: "trigger ⟨beb, Broadcast | [FULL-CERTIFICATE, value_i, fullCertificate_i]⟩"
  unfoldable pub sending : Reaction → Reaction
  sending x = act (BroadcastFull (own_full x.machine)) (set_sent x)

  -- 33: "upon certificate_1, certificate_2 ∈ obtainedLightCertificates_i where certificate_1 conflicts with certificate_2 and
  -- confirmed_i = true do"
  unfoldable pub upon_notices_conflict : Reaction → Reaction
  upon_notices_conflict x =
      cond (x.machine.confirmed && not x.machine.sent && is_some (conflict value_of_notice x.machine.noticed)) (sending x) x

  -- 42: "trigger ⟨ac, Detect | F, proof⟩"
  unfoldable pub detecting : FullCertificate → FullCertificate → Reaction → Reaction
  detecting c d x =
      let seats = newly x.machine.detected c.entries d.entries in
      act (Detect c d seats) (add_detected seats x)

  -- 39: "upon certificate_1, certificate_2 ∈ obtainedFullCertificates_i where certificate_1 conflicts with certificate_2 do"
  unfoldable pub upon_conflict : FullCertificate → FullCertificate → Reaction → Reaction
  upon_conflict c d x = cond (shows_more x.machine.detected c d) (detecting c d x) x

  -- certificate_1 is the first one obtained, and certificate_2 each of the others; (10)
  unfoldable pub upon_conflicts : FullCertificate → List FullCertificate → Reaction → Reaction
  upon_conflicts c [] x = x
  upon_conflicts c (d ∷ ds) x = upon_conflicts c ds (upon_conflict c d x)

  unfoldable pub upon_conflicts_in : List FullCertificate → Reaction → Reaction
  upon_conflicts_in [] x = x
  upon_conflicts_in (c ∷ ds) x = upon_conflicts c ds x

  unfoldable pub upon_fulls_conflict : Reaction → Reaction
  upon_fulls_conflict x = upon_conflicts_in x.machine.obtained x

  -- ---- one event after another

  unfoldable pub upon_event : Event → Reaction → Reaction
  upon_event (Submitted v signature) x = upon_submit v signature x
  upon_event (SubmitDelivered seat v signature) x = upon_submit_delivered seat v signature x
  upon_event (NoticeDelivered v) x = upon_notice_delivered v x
  upon_event (FullDelivered c) x = upon_full_delivered c x

  -- the rules of lines 25, 33 and 39, each tried once after each event: those of lines 33 and 39 see the effect of line 25's, and
  -- make none due (`Rules`)
  unfoldable pub upon_rules : Reaction → Reaction
  upon_rules x = upon_fulls_conflict (upon_notices_conflict (upon_quorum x))

  unfoldable pub react : Event → Machine → Reaction
  react e m = upon_rules (upon_event e (record { machine = m; actions = [] }))

-- ---- the message of an action

-- "Entry seats rise.": exactly these, in the order of their seats
pub record InOrder {A : Type 0} (seat_of : A → ℕ) (These : A → Type 0) (xs : List A) : Type 0 where
  pub rise : rising (map seat_of xs) ≡ true
  pub just : (x : A) → Memᴰ x xs ↔ These x

-- "a pair of messages properly signed by the same process", one of each certificate
abbrev pub PairOf : FullCertificate → FullCertificate → Pair → Type 0
PairOf low high p =
    Memᴰ (record { seat = p.seat; signature = p.lower }) low.entries
    × Memᴰ (record { seat = p.seat; signature = p.higher }) high.entries
    × (p.lower_value ≡ low.value)
    × (p.higher_value ≡ high.value)

-- messages of a unit at a seat in a round
module _ (round seat : ℕ) where
  -- EVIDENCE, with the lower value first: every such pair of the two certificates, of the seats detected
  abbrev pub SaysConflict : FullCertificate → FullCertificate → List ℕ → Message → Type 0
  SaysConflict low high seats m =
      (ps : List Pair) × (is_lower low.value high.value ≡ true) × (m ≡ Evidence round ValuesEach ps)
      × InOrder (λ (p : Pair). p.seat) (λ (p : Pair). PairOf low high p × Memᴰ p.seat seats) ps

  -- the message that an action is sent as. A FULL has the entries of the certificate, each with its signature there.
  abbrev pub Says : Action → Message → Type 0
  Says (BroadcastSubmit v signature) m = m ≡ Submit round seat v signature
  Says (ConfirmAndNotice v) m = m ≡ Notice round seat v
  Says (BroadcastFull c) m =
      (es : List Entry) × (m ≡ Full round seat c.value es) × InOrder (λ (e : Entry). e.seat) (λ (e : Entry). Memᴰ e c.entries) es
  Says (Detect c d seats) m = SaysConflict c d seats m ⊎ SaysConflict d c seats m

  -- messages of actions, one after another
  abbrev pub SaysEach : List Action → List Message → Type 0
  SaysEach [] [] = Unit {0}
  SaysEach [] (m ∷ ms) = ⊥
  SaysEach (a ∷ acts) [] = ⊥
  SaysEach (a ∷ acts) (m ∷ ms) = Says a m × SaysEach acts ms
