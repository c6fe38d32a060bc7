-- "The old 0x05 is still accepted by the check." (document 02, item 3). First the evidence check as it was before item 3, where it differed;
-- then the claim: for all bytes that start with 0x05 it answers the same number and the same mask. Messages are today's. The EVIDENCE before
-- is the one that has its values once, and these definitions make no other.
-- Assumes nothing.
use Rattle.std.specs.Prelude.{◌≡◌, refl, Bool, true, false, cond, not, ◌&&◌, List, [], ◌∷◌, ◌++◌, ℕ, ◌+◌, ◌≤◌, leb, eqb, take, drop}
use Rattle.std.proofs.Common.{sym, ap, arith}
use Rattle.std.proofs.Math.Path.{subst}
use mathlib.Core.List.Memᴰ
use Rattle.std.proofs.Math.ListN.{length}
use Rattle.refusal.specs.Refusal.{first_of}
use Rattle.protocol.specs.Layout.{signature_length, old_evidence_count_at, old_evidence_start, old_evidence_length}
use Rattle.protocol.specs.Values.{is_lower}
use Rattle.protocol.specs.Entries.{Form, Laid, entry_commands, read_entries}
use Rattle.protocol.specs.EntriesLaws.{length-read}
use Rattle.protocol.specs.Message.{Pair, PairValues, ValuesOnce, ValuesEach, Message, Submit, Notice, Full, Evidence, Garbled, evidence_form, form_of, count_of, byte_at, read_round, read_values, fits_submit, fits_notice, fits_full, fits_evidence, read_submit, read_notice, read_full, read_evidence, read}
use Rattle.protocol.specs.MessageLaws.{old-evidence-place, laid-values, evidence-fits, read_cases, pack-old}
use Rattle.protocol.specs.ConditionsLaws.{each_every}
use Rattle.protocol.specs.Refusals.{Condition, Checks, every, is_evidence, lower_first, not_lower_first, outside_conditions, message_conditions, pack_conditions, evidence_conditions}
use Rattle.protocol.specs.Calls.{checked_by, evidence_check}
use Rattle.protocol.specs.declared.Checked.{Checked}
use Rattle.round.specs.Round.{Each}
use Rattle.reading.specs.Reading.{Sized}
use Rattle.reading.specs.ReadingLaws.{read-sized}

-- ---- before: the message in given bytes

-- EVIDENCE's entries, over its two values: "0x06, seat 1, the signature over the lower value, the signature over the higher"
unfoldable pub form_before : PairValues → Form Pair
form_before values = record {
  start = old_evidence_start;
  command = 0x06;
  held = signature_length + signature_length;
  seat = λ (p : Pair). p.seat;
  bytes = λ (p : Pair). p.lower ++ p.higher;
  make = λ (seat : ℕ) (held : List ℕ).
      record { seat = seat; lower_value = values.lower; higher_value = values.higher; lower = take signature_length held; higher = drop signature_length held };
}

abbrev pub form_of_before : List ℕ → Form Pair
form_of_before bytes = form_before (read_values bytes)

abbrev pub count_of_before : List ℕ → ℕ
count_of_before bytes = byte_at bytes old_evidence_count_at

unfoldable pub fits_evidence_before : ℕ → List ℕ → Bool
fits_evidence_before n bytes =
    let count = count_of_before bytes in
    eqb (byte_at bytes 0) 0x05
    && leb 1 count
    && leb count n
    && eqb (length bytes) (old_evidence_length count)
    && entry_commands (form_of_before bytes) count bytes

unfoldable pub read_evidence_before : List ℕ → Message
read_evidence_before bytes = Evidence (read_round bytes) (ValuesOnce (read_values bytes)) (read_entries (form_of_before bytes) (count_of_before bytes) bytes)

unfoldable pub read_before : ℕ → List ℕ → Message
read_before n bytes =
    cond (fits_submit bytes) (read_submit bytes)
    (cond (fits_notice bytes) (read_notice bytes)
    (cond (fits_full n bytes) (read_full n bytes)
    (cond (fits_evidence_before n bytes) (read_evidence_before bytes)
    Garbled)))

-- ---- before: the check

-- 15: "evidence whose values are equal or not lower first": the two values of the message
unfoldable pub not_lower_first_before : Message → Bool
not_lower_first_before (Submit round seat value signature) = false
not_lower_first_before (Notice round seat value) = false
not_lower_first_before (Full round sender value entries) = false
not_lower_first_before (Evidence round (ValuesOnce values) entries) = not (is_lower values.lower values.higher)
not_lower_first_before (Evidence round ValuesEach entries) = false
not_lower_first_before Garbled = false

-- the evidence check: 1, 3, 5, 9, 10, 11, 12, 14, 15
unfoldable pub evidence_conditions_before : Checks → ℕ → ℕ → List ℕ → Message → List Condition
evidence_conditions_before checks n round keys m =
    outside_conditions n round keys ++ message_conditions checks n round (is_evidence m) m ++ (15, not_lower_first_before m) ∷ []

unfoldable pub evidence_check_before : Checks → ℕ → ℕ → List ℕ → List ℕ → Checked
evidence_check_before checks n round keys bytes =
    checked_by (first_of (evidence_conditions_before checks n round keys (read_before n bytes))) (read_before n bytes)

-- ---- bytes that start with 0x05

-- a test that has one answer for every element of a list that isn't empty
every_same : {A : Type 0} (test : A → Bool) (b : Bool) (xs : List A) → Each (λ x. test x ≡ b) xs → 1 ≤ length xs → every test xs ≡ b
unfolding every
every_same test true xs each some = each_every test xs each
every_same test false [] each some = absurd (omega arith)
every_same test false (x ∷ xs) each some = rw (each x (Memᴰ.head refl))

-- every entry has the two values of its message
same_conflict : (ρ : ℕ) (values : PairValues) (ps : List Pair) → Laid (evidence_form (ValuesOnce values)) ps → 1 ≤ length ps
    → not_lower_first (Evidence ρ (ValuesOnce values) ps) ≡ not_lower_first_before (Evidence ρ (ValuesOnce values) ps)
unfolding not_lower_first not_lower_first_before lower_first
same_conflict ρ values ps laid some =
    let own = laid-values values ps laid in
    ap not (every_same lower_first (is_lower values.lower values.higher) ps (λ p d. rw ((own p d).0, (own p d).1)) some)

module _ (n : ℕ) (bytes : List ℕ) (old : byte_at bytes 0 ≡ 0x05) where
  fits_as_before : fits_evidence n bytes ≡ fits_evidence_before n bytes
  unfolding fits_evidence fits_evidence_before form_before evidence_form
  fits_as_before = rw (pack-old bytes old, old-evidence-place (read_values bytes) (count_of_before bytes))

  evidence_as_before : read_evidence bytes ≡ read_evidence_before bytes
  unfolding read_evidence read_evidence_before form_before evidence_form
  evidence_as_before = rw (pack-old bytes old)

  read_as_before : read n bytes ≡ read_before n bytes
  unfolding read read_before
  read_as_before = rw (fits_as_before, evidence_as_before)

  conflict_as_before : not_lower_first (read n bytes) ≡ not_lower_first_before (read n bytes)
  unfolding not_lower_first not_lower_first_before read_submit read_notice read_full read_evidence
  conflict_as_before =
      read_cases (λ m. Sized n m → not_lower_first m ≡ not_lower_first_before m) n bytes (λ f z. refl) (λ f z. refl) (λ f z. refl)
      (λ f z.
      let ps = read_entries (form_of bytes) (count_of bytes) bytes in
      let some : 1 ≤ length ps = omega (arith, length-read (form_of bytes) (count_of bytes) bytes, (evidence-fits n bytes f).some) in
      subst (λ form. Laid (evidence_form form) ps → not_lower_first (Evidence (read_round bytes) form ps) ≡ not_lower_first_before (Evidence (read_round bytes) form ps)) (sym (pack-old bytes old))
      (λ laid. same_conflict (read_round bytes) (read_values bytes) ps laid some) z)
      (λ z. refl) (read-sized n bytes)

-- ---- the claim

pub old_as_before : (checks : Checks) (n round : ℕ) (keys bytes : List ℕ) → byte_at bytes 0 ≡ 0x05 → evidence_check checks n round keys bytes ≡ evidence_check_before checks n round keys bytes
unfolding evidence_check evidence_check_before evidence_conditions pack_conditions evidence_conditions_before outside_conditions
old_as_before checks n round keys bytes old =
    rw (conflict_as_before n bytes old, read_as_before n bytes old)
