-- "Where no seat is kept in the record lent, no SUBMIT comes early and the store has the new length, every answer is the one given
-- before" (document 02, item 1). First the definitions as they were before item 1, where they differed; then the claims. The record is
-- today's, and these definitions don't look at its seats kept. What they share with today's uses the first two banks of the store
-- alone, whose slots stand where they stood. What item 3 changed is today's in both.
-- Assumes nothing.
use Rattle.std.specs.Prelude.{◌≡◌, Bool, not, ◌&&◌, ◌||◌, List, [], ◌∷◌, ◌++◌, drop}
use Rattle.std.proofs.Math.Path.{refl, ap}
use Rattle.std.proofs.Common.{sym, ap₂, ◌∙◌, arith, pow_pos}
use Rattle.std.proofs.Math.Bool.{false, cond, and-false, or-false}
use mathlib.Core.List.Memᴰ
use Prim.Native.Nat.{ℕ, zero, suc, ◌+◌, ◌*◌, ◌≤◌}
use Rattle.std.proofs.Math.Dec.{ltb}
use Rattle.std.proofs.Math.ListN.{length}
use borrow.Author.Tests.{le-ltb, eq-eqb, not-false}
use Rattle.quorum.specs.Quorum.{k, bit, has, size, outside}
use Rattle.quorum.specs.QuorumLaws.{bit-empty, has_false, outside-false}
use Rattle.refusal.specs.Refusal.{first_of, unrefused}
use Rattle.protocol.specs.Layout.{signature_length, banks, collected_bank, first_bank, kept_bank, length_of_banks, banks_before, slot_length_in, slot_length, store_length, slot_at, out_length, evidence_out_length}
use Rattle.protocol.specs.Message.{Message, Submit, Notice, Full, Evidence, Garbled, read, seats_of}
use Rattle.protocol.specs.Certificate.{certificate_in, kept_value, kept_signature, conflict_of}
use Rattle.protocol.specs.Record.{with_kept, out_of_range, wrong_heard, names_stranger, wrong_collected, wrong_first, lacks_first, wrong_guilty, wrong_sent, wrong_kept, wrong_unset, impossible}
use Rattle.protocol.specs.Refusals.{Condition, Checks, KEYS, OUT, SAID, GARBLED, GARBLED_OWN, OTHER_ROUND, STRANGER, DISORDER, SIGNATURE, NO_CONFLICT_IN, NO_CONFLICT_BETWEEN, is_for_step, is_full, is_evidence, short_store, outside_conditions, record_conditions, message_conditions, certificate_conditions, two_conditions, pack_conditions, submit_conditions, step_conditions, evidence_conditions, making_conditions, lower_conditions}
use Rattle.protocol.specs.Step.{State, with_unit, write, collect, set_own_value, submit_own, is_wanted, collect_if_wanted, is_open_to, collect_kept_seat, collect_kept_below, empty_kept, collect_kept, hear, reply, hear_certificate, confirm_if_complete, submitted, stepped}
use Rattle.protocol.specs.Calls.{Result, result_by, start, submit, step, Making, making_by, making, checked_by, evidence_check, lower_of, lower_certificate}
use Rattle.protocol.specs.declared.Record.{Record}
use Rattle.protocol.specs.declared.Checked.{Checked}
use Rattle.round.specs.Round.{Setting, Each, Call, BySubmit, ByStep, ByThinEntry, Called, outcome, result_of, list_from}
use Rattle.reading.specs.ListsLaws.{each_nil, each_cons}
use Rattle.reading.specs.Reading.{Sized}
use Rattle.reading.specs.ReadingLaws.{read-sized}
use Rattle.claims.specs.KeptPartLaws.{kept_part, Beside, Aside, Emptied, aside-refl, stepped-late, late_aside, notice-aside, full-aside}
use Rattle.claims.specs.Kept.{submit-emptied}
use Rattle.claims.specs.UnrefusedLaws.{Taken}
use Rattle.claims.specs.NotRefused.{submit-fit, step-fit}

-- ---- before: the store, "n slots of 1,452 for collected signatures, then n for the first certificate, each by seat"

unfoldable pub two_banks : List ℕ
two_banks = signature_length ∷ signature_length ∷ []

-- "The store has 2,904 × n bytes or more"
unfoldable pub store_length_before : ℕ → ℕ
store_length_before n = length_of_banks two_banks * n

unfoldable pub slot_at_before : ℕ → ℕ → ℕ → ℕ
slot_at_before n bank seat = length_of_banks (banks_before bank two_banks) * n + slot_length_in bank two_banks * seat

-- ---- before: refusals

-- "a mask names a seat at or above n": three masks
unfoldable pub names_stranger_before : Record → Bool
names_stranger_before r = outside r.n r.own.collected || outside r.n r.first.seats || outside r.n r.guilty

-- impossible records, without a word about seats kept
unfoldable pub impossible_before : Record → Bool
impossible_before r = out_of_range r || wrong_heard r || names_stranger_before r || wrong_collected r || wrong_first r || lacks_first r || wrong_guilty r || wrong_sent r || wrong_unset r

-- 13: "SUBMIT heard before the own submit"
unfoldable pub early : Record → Message → Bool
early r (Submit round seat value signature) = not r.own.submitted
early r (Notice round seat value) = false
early r (Full round sender value entries) = false
early r (Evidence round form entries) = false
early r Garbled = false

unfoldable pub record_conditions_before : List ℕ → Record → List ℕ → List ℕ → List Condition
record_conditions_before keys r store out = (4, impossible_before r) ∷ KEYS r.n keys ∷ (6, ltb (length store) (store_length_before r.n)) ∷ OUT (out_length r.n) out ∷ []

-- a message's 9 to 14, with 13 before 14
unfoldable pub message_conditions_before : Checks → ℕ → ℕ → Bool → Bool → Message → List Condition
message_conditions_before checks n round taken is_early m =
    GARBLED taken ∷ OTHER_ROUND round m ∷ STRANGER n m ∷ DISORDER m ∷ (13, is_early) ∷ SIGNATURE checks m ∷ []

unfoldable pub submit_conditions_before : Checks → List ℕ → Record → List ℕ → List ℕ → List ℕ → List ℕ → List Condition
submit_conditions_before checks keys r store value signature out =
    record_conditions_before keys r store out
    ++ SAID r ∷ GARBLED_OWN value signature ∷ SIGNATURE checks (Submit r.round r.seat value signature) ∷ []

unfoldable pub step_conditions_before : Checks → List ℕ → Record → List ℕ → Message → List ℕ → List Condition
step_conditions_before checks keys r store m out =
    record_conditions_before keys r store out ++ message_conditions_before checks r.n r.round (is_for_step m) (early r m) m

-- ---- before: the two calls

-- nothing was collected at the own submit but the own signature
unfoldable pub submitted_before : List ℕ → List ℕ → State → State
submitted_before value signature s = confirm_if_complete (submit_own value signature s)

-- "SUBMIT heard: if not confirmed, the value is the own one and the seat is new, its signature is collected. Otherwise
-- nothing changes."
unfoldable pub hear_submit_before : ℕ → List ℕ → List ℕ → State → State
hear_submit_before seat value signature s = cond (is_wanted seat value s.unit) (collect seat signature s) s

unfoldable pub stepped_before : Message → State → State
stepped_before (Submit round seat value signature) s = confirm_if_complete (hear_submit_before seat value signature s)
stepped_before (Notice round seat value) s = reply (hear value s)
stepped_before (Full round sender value entries) s = hear_certificate (certificate_in (Full round sender value entries)) s
stepped_before (Evidence round form entries) s = s
stepped_before Garbled s = s

unfoldable pub submit_before : Checks → List ℕ → Record → List ℕ → List ℕ → List ℕ → List ℕ → Result
submit_before checks keys r store value signature out =
    result_by (first_of (submit_conditions_before checks keys r store value signature out)) (submitted_before value signature (start r store)) r store

unfoldable pub step_before : Checks → List ℕ → Record → List ℕ → List ℕ → List ℕ → Result
step_before checks keys r store bytes out =
    result_by (first_of (step_conditions_before checks keys r store (read r.n bytes) out)) (stepped_before (read r.n bytes) (start r store)) r store

-- ---- before: the calls without a record, in which no message was early

unfoldable pub evidence_check_before : Checks → ℕ → ℕ → List ℕ → List ℕ → Checked
evidence_check_before checks n round keys bytes =
    let m = read n bytes in
    checked_by (first_of (outside_conditions n round keys ++ message_conditions_before checks n round (is_evidence m) false m ++ NO_CONFLICT_IN m ∷ [])) m

unfoldable pub two_conditions_before : Checks → ℕ → ℕ → Message → Message → List Condition
two_conditions_before checks n round a b =
    message_conditions_before checks n round (is_full a) false a ++ message_conditions_before checks n round (is_full b) false b ++ NO_CONFLICT_BETWEEN a b ∷ []

unfoldable pub making_before : Checks → ℕ → ℕ → List ℕ → List ℕ → List ℕ → List ℕ → Making
making_before checks n round keys a b out =
    making_by (first_of (outside_conditions n round keys ++ OUT (evidence_out_length n) out ∷ [] ++ two_conditions_before checks n round (read n a) (read n b)))
    (conflict_of n round (certificate_in (read n a)) (certificate_in (read n b)))

unfoldable pub lower_certificate_before : Checks → ℕ → ℕ → List ℕ → List ℕ → List ℕ → List ℕ
lower_certificate_before checks n round keys a b =
    unrefused (first_of (outside_conditions n round keys ++ two_conditions_before checks n round (read n a) (read n b))) (lower_of n a b) []

-- ---- the old part of the store

-- the old slots stand where they stood
pub slots_as_before : (n seat : ℕ) → (slot_at_before n collected_bank seat ≡ slot_at n collected_bank seat) × (slot_at_before n first_bank seat ≡ slot_at n first_bank seat)
unfolding slot_at_before two_banks slot_at slot_length slot_length_in banks banks_before length_of_banks
slots_as_before n seat = (refl, refl)

-- and have their lengths
pub lengths_as_before : (slot_length_in collected_bank two_banks ≡ slot_length collected_bank) × (slot_length_in first_bank two_banks ≡ slot_length first_bank)
unfolding two_banks slot_length slot_length_in banks
lengths_as_before = (refl, refl)

pub before_figure : (n : ℕ) → store_length_before n ≡ 2904 * n
unfolding store_length_before two_banks length_of_banks signature_length
before_figure n = refl

-- the kept ones begin where the store ended
pub kept-begins : (n : ℕ) → slot_at n kept_bank 0 ≡ store_length_before n
unfolding store_length_before two_banks slot_at banks banks_before length_of_banks
kept-begins n = omega arith

-- ---- the refusal numbers

-- the store has grown
longer : (n : ℕ) → store_length_before n ≤ store_length n
unfolding store_length_before two_banks store_length banks length_of_banks
longer n = omega arith

module _ (r : Record) (none : r.kept ≡ 0) where
  stranger_as_before : names_stranger r ≡ names_stranger_before r
  unfolding names_stranger names_stranger_before
  stranger_as_before = rw ((outside-false r.n r.kept).1 (rw none (pow_pos r.n)), or-false)

  none_wrong : wrong_kept r ≡ false
  unfolding wrong_kept
  none_wrong = rw (eq-eqb r.kept 0 none, and-false)

  possible_as_before : impossible r ≡ impossible_before r
  unfolding impossible impossible_before
  possible_as_before = rw (stranger_as_before, none_wrong, or-false)

  record_as_before : (keys store out : List ℕ) (rest rest' : List Condition) → store_length r.n ≤ length store → first_of rest ≡ first_of rest'
      → first_of (record_conditions keys r store out ++ rest) ≡ first_of (record_conditions_before keys r store out ++ rest')
  unfolding record_conditions record_conditions_before short_store first_of
  record_as_before keys store out rest rest' room e =
      rw (possible_as_before, le-ltb (length store) (store_length r.n) room, le-ltb (length store) (store_length_before r.n) (omega (arith, longer r.n)), e)

-- no 13 where the message isn't early
message_as_before : (checks : Checks) (n round : ℕ) (taken is_early : Bool) (m : Message) → is_early ≡ false → first_of (message_conditions checks n round taken m) ≡ first_of (message_conditions_before checks n round taken is_early m)
unfolding message_conditions message_conditions_before first_of
message_as_before checks n round taken is_early m e = rw e

-- ---- the effects

module _ (s : State) (none : s.unit.kept ≡ 0) where
  seat_as_before : (seat : ℕ) → collect_kept_seat seat s ≡ s
  unfolding collect_kept_seat is_open_to
  seat_as_before seat =
      let new : has seat s.unit.kept ≡ false = (has_false seat s.unit.kept).1 (ap (bit seat) none ∙ bit-empty seat) in
      ap (λ (b : Bool). cond (b && ltb (size s.unit.own.collected) (k s.unit.n)) (collect_if_wanted seat (kept_value s.unit.n s.store seat) (kept_signature s.unit.n s.store seat) s) s) new

  below_as_before : (t : ℕ) → collect_kept_below t s ≡ s
  unfolding collect_kept_below
  below_as_before zero = refl
  below_as_before (suc t) = ap (collect_kept_seat t) (below_as_before t) ∙ seat_as_before t

  kept_as_before : collect_kept s ≡ s
  unfolding collect_kept empty_kept
  kept_as_before =
      ap empty_kept (below_as_before s.unit.n) ∙ ap (λ (kept : ℕ). with_unit s (with_kept s.unit kept)) (sym none)

submitted_as_before : (value signature : List ℕ) (s : State) → s.unit.kept ≡ 0 → submitted value signature s ≡ submitted_before value signature s
unfolding submitted submitted_before submit_own write collect set_own_value
submitted_as_before value signature s none = ap confirm_if_complete (kept_as_before (submit_own value signature s) none)

stepped_as_before : (m : Message) (s : State) → early s.unit m ≡ false → stepped m s ≡ stepped_before m s
unfolding early stepped stepped_before hear_submit_before collect_if_wanted
stepped_as_before (Submit round seat value signature) s e = stepped-late round seat value signature s (not-false s.unit.own.submitted e)
stepped_as_before (Notice round seat value) s e = refl
stepped_as_before (Full round sender value entries) s e = refl
stepped_as_before (Evidence round form entries) s e = refl
stepped_as_before Garbled s e = refl

-- ---- the claims: the same number, record, store and bytes written, and so the same answer

pub submit_as_before : (checks : Checks) (keys : List ℕ) (r : Record) (store value signature out : List ℕ) → r.kept ≡ 0 → store_length r.n ≤ length store
    → submit checks keys r store value signature out ≡ submit_before checks keys r store value signature out
unfolding submit submit_before submit_conditions submit_conditions_before
submit_as_before checks keys r store value signature out none room =
    ap₂ (λ q s. result_by q s r store) (record_as_before r none keys store out _ _ room refl) (submitted_as_before value signature (start r store) none)

pub step_as_before : (checks : Checks) (keys : List ℕ) (r : Record) (store bytes out : List ℕ) → r.kept ≡ 0 → early r (read r.n bytes) ≡ false → store_length r.n ≤ length store
    → step checks keys r store bytes out ≡ step_before checks keys r store bytes out
unfolding step step_before step_conditions step_conditions_before
step_as_before checks keys r store bytes out none timely room =
    let m = read r.n bytes in
    ap₂ (λ q s. result_by q s r store)
    (record_as_before r none keys store out _ _ room (message_as_before checks r.n r.round (is_for_step m) (early r m) m timely))
    (stepped_as_before m (start r store) timely)

-- the calls without a record answer as before, whatever they are given
pub evidence-check_as_before : (checks : Checks) (n round : ℕ) (keys bytes : List ℕ) → evidence_check checks n round keys bytes ≡ evidence_check_before checks n round keys bytes
unfolding evidence_check evidence_check_before evidence_conditions pack_conditions outside_conditions message_conditions message_conditions_before first_of
evidence-check_as_before checks n round keys bytes = refl

pub making_as_before : (checks : Checks) (n round : ℕ) (keys a b out : List ℕ) → making checks n round keys a b out ≡ making_before checks n round keys a b out
unfolding making making_before making_conditions two_conditions two_conditions_before certificate_conditions outside_conditions message_conditions message_conditions_before first_of
making_as_before checks n round keys a b out = refl

pub lower-certificate_as_before : (checks : Checks) (n round : ℕ) (keys a b : List ℕ) → lower_certificate checks n round keys a b ≡ lower_certificate_before checks n round keys a b
unfolding lower_certificate lower_certificate_before lower_conditions two_conditions two_conditions_before certificate_conditions outside_conditions message_conditions message_conditions_before first_of
lower-certificate_as_before checks n round keys a b = refl

-- ---- the rest of the store: "after the old slots" nothing changes, and no seat is kept afterwards

rest_of : (r : Record) (store : List ℕ) (q : ℕ) (s : State) → (q ≡ 0 → Beside r.n store s.store) → drop (store_length_before r.n) (result_by q s r store).store ≡ drop (store_length_before r.n) store
unfolding result_by unrefused kept_part
rest_of r store zero s f = rw (← kept-begins r.n) (f refl).rest
rest_of r store (suc q) s f = refl

none_of : (r : Record) (store : List ℕ) (q : ℕ) (s : State) → r.kept ≡ 0 → (q ≡ 0 → s.unit.kept ≡ 0) → (result_by q s r store).unit.kept ≡ 0
unfolding result_by unrefused
none_of r store zero s none f = f refl
none_of r store (suc q) s none f = none

-- a submit, whatever is kept
module _ (checks : Checks) (keys : List ℕ) (r : Record) (store value signature out : List ℕ) where
  emptied : first_of (submit_conditions checks keys r store value signature out) ≡ 0 → Emptied (start r store) (submitted value signature (start r store))
  emptied e = submit-emptied checks keys r store value signature out (submit-fit checks keys r store value signature out e)

  pub submit-rest : drop (store_length_before r.n) (submit checks keys r store value signature out).store ≡ drop (store_length_before r.n) store
  unfolding submit
  submit-rest = rest_of r store (first_of (submit_conditions checks keys r store value signature out)) (submitted value signature (start r store)) (λ e. (emptied e).beside)

  pub submit-keeps_none : r.kept ≡ 0 → (submit checks keys r store value signature out).unit.kept ≡ 0
  unfolding submit
  submit-keeps_none none = none_of r store (first_of (submit_conditions checks keys r store value signature out)) (submitted value signature (start r store)) none (λ e. (emptied e).kept)

-- a step without an early SUBMIT
module _ (checks : Checks) (keys : List ℕ) (r : Record) (store bytes out : List ℕ) (timely : early r (read r.n bytes) ≡ false) where
  step-aside : first_of (step_conditions checks keys r store (read r.n bytes) out) ≡ 0 → Aside (start r store) (stepped (read r.n bytes) (start r store))
  unfolding stepped early seats_of
  step-aside e = let fit = step-fit checks keys r store bytes out e in go (read r.n bytes) fit.lent.store_room fit.message (read-sized r.n bytes) timely
    where
      go : (m : Message) → store_length r.n ≤ length store → Taken checks r.n r.round m → Sized r.n m → early r m ≡ false → Aside (start r store) (stepped m (start r store))
      go (Submit ρ seat value signature) room taken sized e =
          late_aside (start r store) room ρ seat value signature (not-false r.own.submitted e) (taken.inside seat (Memᴰ.head refl)) (omega (arith, sized.1))
      go (Notice ρ seat value) room taken sized e = notice-aside (start r store) room ρ seat value
      go (Full ρ sender value es) room taken sized e = full-aside (start r store) room ρ sender value es sized.2
      go (Evidence ρ form ps) room taken sized e = aside-refl (start r store)
      go Garbled room taken sized e = aside-refl (start r store)

  pub step-rest : drop (store_length_before r.n) (step checks keys r store bytes out).store ≡ drop (store_length_before r.n) store
  unfolding step
  step-rest = rest_of r store (first_of (step_conditions checks keys r store (read r.n bytes) out)) (stepped (read r.n bytes) (start r store)) (λ e. (step-aside e).beside)

  pub step-keeps_none : r.kept ≡ 0 → (step checks keys r store bytes out).unit.kept ≡ 0
  unfolding step
  step-keeps_none none = none_of r store (first_of (step_conditions checks keys r store (read r.n bytes) out)) (stepped (read r.n bytes) (start r store)) none (λ e. (step-aside e).kept ∙ none)

-- ---- along a list

unfoldable pub outcome_before : Setting → Call → Record → List ℕ → Result
outcome_before S (BySubmit value signature out) r store = submit_before S.checks S.keys r store value signature out
outcome_before S (ByStep bytes out) r store = step_before S.checks S.keys r store bytes out
outcome_before S (ByThinEntry bytes out) r store = step_before S.checks S.keys r store bytes out

unfoldable pub list_before : Setting → Record → List ℕ → List Call → List Called
list_before S r store [] = []
list_before S r store (c ∷ cs) =
    record { given = c; unit = r; store = store } ∷ list_before S (outcome_before S c r store).unit (outcome_before S c r store).store cs

-- the call isn't given an early SUBMIT
abbrev pub TimelyGiven : Call → Record → Type 0
TimelyGiven (BySubmit value signature out) r = Unit {0}
TimelyGiven (ByStep bytes out) r = early r (read r.n bytes) ≡ false
TimelyGiven (ByThinEntry bytes out) r = early r (read r.n bytes) ≡ false

call_as_before : (S : Setting) (c : Call) (r : Record) (store : List ℕ) → r.kept ≡ 0 → TimelyGiven c r → store_length r.n ≤ length store → (outcome S c r store ≡ outcome_before S c r store) × ((outcome S c r store).unit.kept ≡ 0)
unfolding outcome outcome_before
call_as_before S (BySubmit value signature out) r store none timely room =
    (submit_as_before S.checks S.keys r store value signature out none room, submit-keeps_none S.checks S.keys r store value signature out none)
call_as_before S (ByStep bytes out) r store none timely room =
    (step_as_before S.checks S.keys r store bytes out none timely room, step-keeps_none S.checks S.keys r store bytes out timely none)
call_as_before S (ByThinEntry bytes out) r store none timely room =
    (step_as_before S.checks S.keys r store bytes out none timely room, step-keeps_none S.checks S.keys r store bytes out timely none)

-- a list from a record without a seat kept, in which no call is given an early SUBMIT and every store has the new length, goes call by
-- call as it went before: each call gets the same record and store, and has the same result
pub list_as_before : (S : Setting) (r : Record) (store : List ℕ) (cs : List Call) → r.kept ≡ 0
    → Each (λ t. TimelyGiven t.given t.unit × (store_length t.unit.n ≤ length t.store)) (list_from S r store cs)
    → (list_from S r store cs ≡ list_before S r store cs) × Each (λ t. result_of S t ≡ outcome_before S t.given t.unit t.store) (list_from S r store cs)
unfolding list_from list_before
list_as_before S r store [] none each = (refl, each_nil (λ t. result_of S t ≡ outcome_before S t.given t.unit t.store))
list_as_before S r store (c ∷ cs) none each =
    let t : Called = record { given = c; unit = r; store = store } in
    let e = each t (Memᴰ.head refl) in
    let h = call_as_before S c r store none e.0 e.1 in
    let rest = list_as_before S (outcome S c r store).unit (outcome S c r store).store cs h.1 (λ x d. each x (Memᴰ.tail d)) in (
      ap (λ (ts : List Called). t ∷ ts) (rest.0 ∙ ap (λ (x : Result). list_before S x.unit x.store cs) h.0),
      each_cons (λ x. result_of S x ≡ outcome_before S x.given x.unit x.store) t (list_from S (outcome S c r store).unit (outcome S c r store).store cs) h.0 rest.1,
    )
