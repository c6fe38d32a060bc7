-- The note of a record and the record of a note, each from the other (`Note` has the definitions).
-- Assumes nothing.
use Rattle.std.specs.Prelude.{◌≡◌, Bool, true, false, not, cond, ◌&&◌, ◌||◌, ◌↔◌, List, [], ◌∷◌, ◌++◌, ℕ, zero, suc, ◌+◌, ◌*◌, ◌/◌, ◌%◌, ◌^◌, ◌≤◌, ◌<◌, eqb, length, take, drop}
use Rattle.std.proofs.Math.Path.{refl, sym, ap}
use Rattle.std.proofs.Common.{◌∙◌, append_assoc, zero-add, arith, lit<, length-append, take_at, drop-drop}
use Rattle.std.proofs.Math.Nat.{pow-le-pow_right}
use Rattle.std.proofs.Math.Seq.{drop_at, take_all}
use borrow.Author.Tests.{lt-leb, leb-false, eq-eqb, eqb-true, not-false}
use Rattle.octets.specs.Octets.{part, be, number, word_at}
use Rattle.octets.specs.OctetsLaws.{length-be, length_part}
use Rattle.octets.specs.StringsLaws.{part_all, number-be, number-part-four, be-word_at}
use Rattle.refusal.specs.RefusalLaws.{both_false}
use Rattle.quorum.specs.Quorum.{most_seats}
use Rattle.protocol.specs.Layout.{value_length, mask_length, note_size_at, note_seat_at, note_round_at, note_flags_at, note_own_value_at, note_collected_at, note_kept_at, note_first_at, note_guilty_at, note_heard_value_at, note_first_value_at, note_length}
use Rattle.protocol.specs.Figures.{note_figure}
use Rattle.protocol.specs.Message.{byte_at, read_value}
use Rattle.protocol.specs.Entries.{each_below}
use Rattle.protocol.specs.EntriesLaws.{each_at}
use Rattle.protocol.specs.RoundTripLaws.{append_parts, one_byte, two_bytes}
use Rattle.protocol.specs.Record.{Possible, one_heard}
use Rattle.protocol.specs.Note.{submitted_flag, confirmed_flag, sent_flag, one_flag, two_flag, two_heard, flag_if, flags_of, is_set, heard_by, render_note, note_flags, note_round, note_record, both_heard, unknown_flag, wrong_note, ValuesSized, NoteFits}
use Rattle.protocol.specs.declared.Record.{Record}

-- ---- flags

bit_of : Bool → ℕ
bit_of b = cond b 1 0

flag_is : (flag : ℕ) (b : Bool) → flag_if flag b ≡ flag * bit_of b
unfolding flag_if bit_of
flag_is flag true = omega arith
flag_is flag false = omega arith

bit-small : (b : Bool) → bit_of b ≤ 1
unfolding bit_of
bit-small true = omega arith
bit-small false = omega arith

is_one : (b : Bool) (x : ℕ) → x ≡ bit_of b → eqb x 1 ≡ b
unfolding bit_of
is_one true x e = rw e
is_one false x e = rw e

-- any five flags added up
module _ (a b c d e : Bool) where
  abbrev sum : ℕ
  sum = flag_if submitted_flag a + flag_if confirmed_flag b + flag_if sent_flag c + flag_if one_flag d + flag_if two_flag e

  abbrev bits : ℕ
  bits = bit_of a + 2 * bit_of b + 4 * bit_of c + 8 * bit_of d + 16 * bit_of e

  sum-bits : sum ≡ bits
  sum-bits = omega (arith, flag_is submitted_flag a, flag_is confirmed_flag b, flag_is sent_flag c, flag_is one_flag d, flag_is two_flag e)

  sum-small : sum < 32
  sum-small = omega (arith, sum-bits, bit-small a, bit-small b, bit-small c, bit-small d, bit-small e)

  sets : (is_set submitted_flag sum ≡ a) × (is_set confirmed_flag sum ≡ b) × (is_set sent_flag sum ≡ c) × (is_set one_flag sum ≡ d) × (is_set two_flag sum ≡ e)
  unfolding is_set
  sets =
      let x = bit-small a in
      let y = bit-small b in
      let z = bit-small c in
      let u = bit-small d in
      let v = bit-small e in
      rw sum-bits (
        is_one a (bits / 1 % 2) (omega arith),
        is_one b (bits / 2 % 2) (omega arith),
        is_one c (bits / 4 % 2) (omega arith),
        is_one d (bits / 8 % 2) (omega arith),
        is_one e (bits / 16 % 2) (omega arith),
      )

-- the flags of a record in which at most two values were heard
some_heard : (heard : ℕ) → heard ≤ 2 → (cond (eqb heard 2) 2 (cond (eqb heard 1) 1 0) ≡ heard) × ((eqb heard 1 && eqb heard 2) ≡ false)
some_heard zero h = (refl, refl)
some_heard (suc zero) h = (refl, refl)
some_heard (suc (suc zero)) h = (refl, refl)
some_heard (suc (suc (suc heard))) h = absurd (omega arith)

module _ (r : Record) where
  record FlagsRead : Type 0 where
    submitted : is_set submitted_flag (flags_of r) ≡ r.own.submitted
    confirmed : is_set confirmed_flag (flags_of r) ≡ r.confirmed
    sent : is_set sent_flag (flags_of r) ≡ r.sent
    heard : heard_by (flags_of r) ≡ r.notices.heard
    apart : both_heard (flags_of r) ≡ false
    known : unknown_flag (flags_of r) ≡ false

  flags-read : r.notices.heard ≤ 2 → FlagsRead
  unfolding flags_of one_heard two_heard heard_by both_heard unknown_flag
  flags-read h =
      let set = sets r.own.submitted r.confirmed r.sent (one_heard r) (two_heard r) in
      let some = some_heard r.notices.heard h in
      record {
        submitted = set.0;
        confirmed = set.1;
        sent = set.2;
        heard = rw (set.3, set.4) some.0;
        apart = rw (set.3, set.4) some.1;
        known = lt-leb 32 (flags_of r) (sum-small r.own.submitted r.confirmed r.sent (one_heard r) (two_heard r));
      }

-- ---- a note written and read back

-- a string in a note: it is read, and what comes after it stands behind it
module _ (note : List ℕ) where
  next : (at n : ℕ) (xs rest : List ℕ) → length xs ≡ n → drop at note ≡ xs ++ rest → (part at n note ≡ xs) × (drop (at + n) note ≡ rest)
  unfolding part
  next at n xs rest l e = (rw e (take_at xs rest n l), sym (drop-drop n at note) ∙ rw e (drop_at xs rest n l))

  next_mask : (at m : ℕ) (rest : List ℕ) → m < 256 ^ mask_length → at + mask_length ≤ length note → drop at note ≡ be mask_length m ++ rest
      → (word_at note at ≡ m) × (drop (at + mask_length) note ≡ rest)
  next_mask at m rest small h e =
      let read = next at mask_length (be mask_length m) rest (length-be mask_length m) e in
      (sym (number-part-four at note h) ∙ ap number read.0 ∙ number-be mask_length m small, read.1)

pub length-render_note : (r : Record) → ValuesSized r → length (render_note r) ≡ note_length
unfolding render_note note_length
length-render_note r sized = simp (length-append, length-be) (omega arith)

regroup : (a b c d e f g h : List ℕ) → a ++ b ++ c ++ d ++ e ++ f ++ g ++ h ≡ a ++ (b ++ (c ++ (d ++ (e ++ (f ++ (g ++ h))))))
regroup a b c d e f g h = simp append_assoc

-- a mask has four bytes
mask-small : (n m : ℕ) → n ≤ most_seats → m < 2 ^ n → m < 256 ^ mask_length
mask-small n m h l = omega (arith, pow-le-pow_right {n = 2} (lit< tt) {j = most_seats} h)

module _ (r : Record) (sized : ValuesSized r) (p : Possible r) where
  abbrev note : List ℕ
  note = render_note r

  small : (m : ℕ) → m < 2 ^ r.n → m < 256 ^ mask_length
  small m = mask-small r.n m p.range.most

  inside : (at : ℕ) → at + mask_length ≤ 118 → at + mask_length ≤ length note
  inside at h = omega (arith, length-render_note r sized, note_figure)

  -- what stands in the note behind its flags
  record Fields : Type 0 where
    own : read_value note_own_value_at note ≡ r.own.value
    collected : word_at note note_collected_at ≡ r.own.collected
    kept : word_at note note_kept_at ≡ r.kept
    certified : word_at note note_first_at ≡ r.first.seats
    guilty : word_at note note_guilty_at ≡ r.guilty
    heard : read_value note_heard_value_at note ≡ r.notices.value
    first : read_value note_first_value_at note ≡ r.first.value

  abbrev values : List ℕ
  values = r.notices.value ++ r.first.value

  abbrev masks : List ℕ
  masks = be mask_length r.own.collected ++ (be mask_length r.kept ++ (be mask_length r.first.seats ++ (be mask_length r.guilty ++ values)))

  abbrev front : List ℕ
  front = 0x20 ∷ r.n ∷ r.seat ∷ be 2 r.round ++ flags_of r ∷ []

  behind_flags : drop note_own_value_at note ≡ r.own.value ++ masks
  unfolding render_note
  behind_flags = ap (drop note_own_value_at) (regroup front r.own.value _ _ _ _ _ _) ∙ drop_at front (r.own.value ++ masks) note_own_value_at (simp (length-append, length-be))

  fields : Fields
  unfolding read_value part
  fields =
      let a = next note note_own_value_at value_length r.own.value masks sized.own behind_flags in
      let b = next_mask note note_collected_at r.own.collected _ (small _ p.collected) (inside note_collected_at (omega arith)) a.1 in
      let c = next_mask note note_kept_at r.kept _ (small _ p.kept) (inside note_kept_at (omega arith)) b.1 in
      let d = next_mask note note_first_at r.first.seats _ (small _ p.first) (inside note_first_at (omega arith)) c.1 in
      let e = next_mask note note_guilty_at r.guilty _ (small _ p.guilty) (inside note_guilty_at (omega arith)) d.1 in
      let f = next note note_heard_value_at value_length r.notices.value r.first.value sized.heard e.1 in
      record {
        own = a.0;
        collected = b.0;
        kept = c.0;
        certified = d.0;
        guilty = e.0;
        heard = f.0;
        first = ap (take value_length) f.1 ∙ take_all value_length r.first.value (omega (arith, sized.first));
      }

  -- and what stands up to them
  record Head : Type 0 where
    command : byte_at note 0 ≡ 0x20
    size : byte_at note note_size_at ≡ r.n
    seat : byte_at note note_seat_at ≡ r.seat
    round : note_round note ≡ r.round
    flags : note_flags note ≡ flags_of r

  head : Head
  unfolding render_note note_round note_flags be
  head = record { command = refl; size = refl; seat = refl; round = omega (arith, p.range); flags = refl }

  read_flags : FlagsRead r
  read_flags = flags-read r p.heard

  -- the record in the note is the record
  pub record_back : note_record note ≡ r
  unfolding note_record
  record_back =
      rw (
        head.size,
        head.seat,
        head.round,
        head.flags,
        read_flags.submitted,
        read_flags.confirmed,
        read_flags.sent,
        read_flags.heard,
        fields.own,
        fields.collected,
        fields.kept,
        fields.certified,
        fields.guilty,
        fields.heard,
        fields.first,
      )

  -- and the note isn't wrong
  pub right_note : wrong_note note ≡ false
  unfolding wrong_note note_length
  right_note = rw (length-render_note r sized, head.command, head.flags, read_flags.apart, read_flags.known)

-- ---- a note read and written back

pub note_right : (note : List ℕ) → (wrong_note note ≡ false) ↔ NoteFits note
unfolding wrong_note unknown_flag
note_right note = (fits, λ f. rw (eq-eqb (length note) note_length f.size, eq-eqb (byte_at note 0) 0x20 f.command, f.apart, lt-leb 32 (note_flags note) f.known))
  where
    fits : wrong_note note ≡ false → NoteFits note
    fits e =
        let a = both_false _ (unknown_flag (note_flags note)) e in
        let b = both_false _ (both_heard (note_flags note)) a.0 in
        let c = both_false (not (eqb (length note) note_length)) (not (eqb (byte_at note 0) 0x20)) b.0 in
        record {
          size = eqb-true (length note) note_length (not-false (eqb (length note) note_length) c.0);
          command = eqb-true (byte_at note 0) 0x20 (not-false (eqb (byte_at note 0) 0x20) c.1);
          apart = b.1;
          known = leb-false 32 (note_flags note) a.1;
        }

-- flags read and written again
abbrev again : ℕ → ℕ
again flags = sum (is_set submitted_flag flags) (is_set confirmed_flag flags) (is_set sent_flag flags) (eqb (heard_by flags) 1) (eqb (heard_by flags) 2)

-- they are the same, unless both heard flags are set: a test of all 32
abbrev flags_same : ℕ → Bool
flags_same flags = both_heard flags || eqb (again flags) flags

all_same : each_below flags_same 32 ≡ true
unfolding each_below both_heard flag_if is_set heard_by
all_same = refl

flags-again : (flags : ℕ) → flags < 32 → both_heard flags ≡ false → again flags ≡ flags
flags-again flags known apart = eqb-true (again flags) flags (rw apart at (each_at flags_same flags 32 known all_same))

module _ (note : List ℕ) (b : (i : ℕ) → byte_at note i < 256) (fits : NoteFits note) where
  long : length note ≡ 118
  long = fits.size ∙ note_figure

  byte_back : (at : ℕ) → at < 118 → byte_at note at ∷ [] ≡ part at 1 note
  byte_back at h = one_byte note at (byte_at note at) (omega (arith, long)) refl

  mask_back : (at : ℕ) → at + mask_length ≤ 118 → be mask_length (word_at note at) ≡ part at mask_length note
  mask_back at h = be-word_at note b at (omega (arith, long))

  -- a string that is the front of the note, and what comes after it
  longer : {us vs : List ℕ} (a b : ℕ) → us ≡ part 0 a note → vs ≡ part a b note → us ++ vs ≡ part 0 (a + b) note
  longer {us} {vs} a b e f = append_parts note 0 a b (a + b) us vs e (rw zero-add f) refl

  -- the note of the record in it is the note
  pub note_back : render_note (note_record note) ≡ note
  unfolding render_note note_record note_round note_flags flags_of one_heard two_heard read_value note_length
  note_back =
      let command = one_byte note 0 0x20 (omega (arith, long)) fits.command in
      let size = longer note_size_at 1 command (byte_back note_size_at (omega arith)) in
      let seat = longer note_seat_at 1 size (byte_back note_seat_at (omega arith)) in
      let round = longer note_round_at 2 seat (two_bytes note b note_round_at (omega (arith, long))) in
      let flags = longer note_flags_at 1 round (byte_back note_flags_at (omega arith)) in
      let own = longer note_own_value_at value_length flags refl in
      let collected = longer note_collected_at mask_length own (mask_back note_collected_at (omega arith)) in
      let kept = longer note_kept_at mask_length collected (mask_back note_kept_at (omega arith)) in
      let certified = longer note_first_at mask_length kept (mask_back note_first_at (omega arith)) in
      let guilty = longer note_guilty_at mask_length certified (mask_back note_guilty_at (omega arith)) in
      let heard = longer note_heard_value_at value_length guilty refl in
      let first = longer note_first_value_at value_length heard refl in
      rw (flags-again (note_flags note) fits.known fits.apart) (first ∙ part_all note note_length fits.size)

-- the record in it has values of 32 bytes
pub values-sized : (note : List ℕ) → NoteFits note → ValuesSized (note_record note)
unfolding note_record read_value
values-sized note fits =
    let value : (at : ℕ) → at + value_length ≤ 118 → length (part at value_length note) ≡ value_length = λ at h. length_part at value_length note (omega (arith, fits.size, note_figure)) in
    record { own = value note_own_value_at (omega arith); heard = value note_heard_value_at (omega arith); first = value note_first_value_at (omega arith) }
