-- The pairs of EVIDENCE in either form, and the signatures of a message, one entry after another.
-- Assumes nothing.
use Rattle.std.specs.Prelude.{◌≡◌, refl, Bool, cond, List, [], ◌∷◌, ℕ, zero, suc, ◌+◌, ◌≤◌, ◌<◌, eqb, length, take, drop}
use Rattle.std.proofs.Common.{sym, ◌∙◌, mul-suc, mul-le-mul_left, arith, take-add, drop_at, drop-drop}
use Rattle.std.proofs.Math.Path.{ap}
use Rattle.std.proofs.Math.Bool.{true, false, not, and-true}
use Rattle.std.proofs.Math.Nat.{add-zero, add_assoc}
use Rattle.octets.specs.Octets.{part}
use Rattle.octets.specs.OctetsLaws.{length_part}
use Rattle.octets.specs.StringsLaws.{part-part}
use Rattle.quorum.specs.Quorum.{k}
use Rattle.protocol.specs.Layout.{value_length, signature_length, seat_at, value_at, submit_signature_at, entry_seat_at, entry_held_at, entry_length, full_entry_length, full_entry_at, pair_lower_value_at, pair_higher_value_at, pair_lower_at, pair_higher_at, pair_length, lower_at, old_pair_length}
use Rattle.protocol.specs.Entries.{each_below, Form, place_of, read_entry, read_entries}
use Rattle.protocol.specs.Message as message
use Rattle.protocol.specs.Message.{PackForm, ValuesOnce, ValuesEach, pack_start, pair_held, pair_made, Signed, byte_at, full_form, evidence_form, pack_in, form_of, count_of, read_value, read_values, read_signature, read_submit, read_full, read_evidence, signed_entry, signed_pair, signed}
use Rattle.protocol.specs.MessageLaws.{pack-old, pack-new}
use Rattle.protocol.specs.Refusals.{Checks, every, bad_signature, lower_first, not_lower_first}
use Rattle.protocol.specs.ConditionsLaws.{every_append, every_flat}
use Rattle.layout.specs.declared.Entries.{Entries}
use Rattle.wire.specs.Reading.{command_place, seat_place, pack_entries, Inside}
use Rattle.signatures.specs.Entries.{Ends}
use Rattle.signatures.specs.Places.{PairInside, pair_checks, pair_read, pair_from, pair_places, pair_in}
use Rattle.signatures.specs.declared.verdicts.Pair.{Pair}

-- two tests that agree below t
each_same : (f g : ℕ → Bool) (t : ℕ) → ((i : ℕ) → i < t → f i ≡ g i) → each_below f t ≡ each_below g t
unfolding each_below
each_same f g zero h = refl
each_same f g (suc t) h = rw (each_same f g t (λ i l. h i (omega arith)), h t (omega arith))

-- a test of every entry read, whatever entries hold
each_read : {A : Type 0} (test : A → Bool) (form : Form A) (bytes : List ℕ) (t : ℕ)
    → every test (read_entries form t bytes) ≡ each_below (λ (i : ℕ). test (read_entry form (place_of form i) bytes)) t
unfolding every read_entries each_below
each_read test form bytes zero = refl
each_read test form bytes (suc t) =
    every_append test (read_entries form t bytes) (read_entry form (place_of form t) bytes ∷ []) ∙ rw (each_read test form bytes t, and-true)

-- ---- the pairs of EVIDENCE

-- a part without its first bytes
part-rest : (from a b : ℕ) (xs : List ℕ) → from + a ≤ length xs → drop a (part from (a + b) xs) ≡ part (from + a) b xs
unfolding part
part-rest from a b xs h =
    rw (take-add a b (drop from xs)) (drop_at (part from a xs) _ a (length_part from a xs h) ∙ ap (take b) (drop-drop a from xs))

module _ (bytes : List ℕ) (at : ℕ) where
  abbrev held : ℕ
  held = at + entry_held_at

  -- the pair in an entry at a place, by whether the command is that of the old EVIDENCE
  pair_made_lem : (old : Bool) → let form = cond old (ValuesOnce (read_values bytes)) ValuesEach in at + entry_length (pair_held form) ≤ length bytes
      → pair_made form (byte_at bytes (at + entry_seat_at)) (part (at + entry_held_at) (pair_held form) bytes) ≡ pair_read bytes (pair_places form bytes at)
  unfolding read_value read_signature part
  pair_made_lem true room =
      rw (part-part 0 signature_length held old_pair_length bytes (omega arith), part-rest held signature_length signature_length bytes (omega arith), add-zero)
  pair_made_lem false room =
      rw (
        part-part pair_lower_value_at value_length held pair_length bytes (omega arith),
        part-part pair_higher_value_at value_length held pair_length bytes (omega arith),
        part-part pair_lower_at signature_length held pair_length bytes (omega arith),
        part-rest held pair_higher_at signature_length bytes (omega arith),
        add-zero,
        ← add_assoc held pair_lower_at signature_length,
      )

  -- its places lie in the message
  places-inside : (form : PackForm) (n : ℕ) → pack_start form ≤ at → at + entry_length (pair_held form) ≤ length bytes → byte_at bytes (at + entry_seat_at) < n
      → PairInside n (pair_places form bytes at) bytes
  places-inside (ValuesOnce values) n start room known = (known, (omega arith, omega arith), (omega arith, omega arith))
  places-inside ValuesEach n start room known = (known, (omega arith, omega arith), (omega arith, omega arith))

-- entries of either form hold this much
least-held : (form : PackForm) → pair_higher_at ≤ pair_held form
unfolding signature_length
least-held (ValuesOnce values) = omega arith
least-held ValuesEach = omega arith

-- an entry of EVIDENCE
module _ (bytes : List ℕ) (ends : Ends bytes) (i : ℕ) (l : i < count_of bytes) where
  room : command_place (pack_entries bytes) i + entry_length (pair_held (pack_in bytes)) ≤ length bytes
  room = let each = entry_length (pair_held (pack_in bytes)) in omega (arith, mul-le-mul_left each l, mul-suc each i)

  pub entry-room : (entries : Entries) → entries ≡ pack_entries bytes → Inside entries bytes × (i < entries.count) × (command_place entries i + entry_held_at + pair_higher_at ≤ length bytes)
  entry-room entries e = rw e (omega arith, l, omega (arith, room, least-held (pack_in bytes)))

  pub pair_inside : (n : ℕ) → byte_at bytes (seat_place (pack_entries bytes) i) < n → PairInside n (pair_in bytes i) bytes
  pair_inside n = places-inside bytes (command_place (pack_entries bytes) i) (pack_in bytes) n (omega arith) room

  pair_read_lem : read_entry (form_of bytes) (place_of (form_of bytes) i) bytes ≡ pair_read bytes (pair_in bytes i)
  unfolding read_entry evidence_form place_of pack_in
  pair_read_lem = pair_made_lem bytes (command_place (pack_entries bytes) i) (eqb (byte_at bytes 0) 0x05) room

-- a test of every pair
each_pair : (test : message.Pair → Bool) (bytes : List ℕ) → Ends bytes
    → every test (read_entries (form_of bytes) (count_of bytes) bytes) ≡ each_below (λ (i : ℕ). test (pair_read bytes (pair_in bytes i))) (count_of bytes)
each_pair test bytes ends =
    each_read test (form_of bytes) bytes (count_of bytes) ∙ each_same _ _ (count_of bytes) (λ i l. ap test (pair_read_lem bytes ends i l))

-- the pair as the code finds it, by the command of the message
module _ (bytes : List ℕ) (entries : Entries) (e : entries ≡ pack_entries bytes) (i seat held : ℕ) (s : seat ≡ byte_at bytes (seat_place entries i))
    (h : held ≡ command_place entries i + entry_held_at) (command : ℕ) (c : command ≡ byte_at bytes 0) (at : ℕ) (p : Pair) where
  pub pair-once : command ≡ 0x05 → at ≡ lower_at → p ≡ pair_from seat at held → p ≡ pair_in bytes i
  pair-once d v q = q ∙ rw (s, h, v, e, pack-old bytes (sym c ∙ d))

  pub pair_each : (command ≡ 0x05 → ⊥) → at ≡ pair_lower_at → p ≡ pair_from seat held (held + at) → p ≡ pair_in bytes i
  pair_each d v q = q ∙ rw (s, h, v, e, pack-new bytes (λ z. d (c ∙ z)))

-- ---- the signatures of a message

module _ (checks : Checks) (bytes : List ℕ) where
  abbrev test : Signed → Bool
  test s = checks s.seat s.value s.signature

  -- the signature of the entry at an index checks; and both of a pair do
  abbrev pub entry_check : ℕ → Bool
  entry_check i = checks (byte_at bytes (full_entry_at i + entry_seat_at)) (read_value value_at bytes) (read_signature (full_entry_at i + entry_held_at) bytes)

  abbrev pub pair_check : ℕ → Bool
  pair_check i = pair_checks checks bytes (pair_in bytes i)

  pub submit_bad : bad_signature checks (read_submit bytes) ≡ not (checks (byte_at bytes seat_at) (read_value value_at bytes) (read_signature submit_signature_at bytes))
  unfolding bad_signature signed read_submit every
  submit_bad = ap not (and-true (checks (byte_at bytes seat_at) (read_value value_at bytes) (read_signature submit_signature_at bytes)))

  entry_is : (i : ℕ) → every test (signed_entry (read_value value_at bytes) (read_entry full_form (place_of full_form i) bytes)) ≡ entry_check i
  unfolding every signed_entry read_entry full_form place_of full_entry_at full_entry_length read_signature
  entry_is i = and-true _

  pub full_bad : (n : ℕ) → bad_signature checks (read_full n bytes) ≡ not (each_below entry_check (k n))
  unfolding bad_signature signed read_full
  full_bad n =
      let of = signed_entry (read_value value_at bytes) in
      ap not (every_flat test of (read_entries full_form (k n) bytes) ∙ each_read _ full_form bytes (k n) ∙ each_same _ entry_check (k n) (λ i h. entry_is i))

  pair_is : (p : Pair) → every test (signed_pair (pair_read bytes p)) ≡ pair_checks checks bytes p
  unfolding every signed_pair
  pair_is p = rw and-true

  pub evidence_bad : Ends bytes → bad_signature checks (read_evidence bytes) ≡ not (each_below pair_check (count_of bytes))
  unfolding bad_signature signed read_evidence
  evidence_bad ends =
      ap not (every_flat test signed_pair (read_entries (form_of bytes) (count_of bytes) bytes) ∙ each_pair _ bytes ends ∙ each_same _ pair_check (count_of bytes) (λ i h. pair_is (pair_in bytes i)))

-- ---- the order of the values of EVIDENCE

-- the first value of the pair at an index is lower than the second
abbrev pub pair_order : List ℕ → ℕ → Bool
pair_order bytes i = lower_first (pair_read bytes (pair_in bytes i))

pub evidence-order : (bytes : List ℕ) → Ends bytes → not_lower_first (read_evidence bytes) ≡ not (each_below (pair_order bytes) (count_of bytes))
unfolding not_lower_first read_evidence
evidence-order bytes ends = ap not (each_pair lower_first bytes ends)
