-- Bytes and signatures of a message with no stranger in it, kind by kind.
-- Assumes nothing.
use Rattle.std.specs.Prelude.{◌≡◌, Some, None, Bool, true, not, ◌&&◌, ℕ, ◌+◌, ◌≤◌, ◌<◌, ltb, length}
use Rattle.std.proofs.Math.Path.{refl, sym, ap}
use Rattle.std.proofs.Common.{◌∙◌}
use Rattle.std.proofs.Math.Bool.{false, and-eq-true_iff}
use mathlib.Core.List.{List, [], ◌∷◌}
use Rattle.std.proofs.Math.Decide.{dec_lt}
use native.Mathlib.Omega.{arith}
use borrow.Author.Tests.{le-leb, lt-ltb, le-ltb, ltb-true, not-false}
use Rattle.refusal.specs.Refusal.{first_of}
use Rattle.quorum.specs.Quorum.{k}
use Rattle.protocol.specs.Layout.{value_length, signature_length, seat_at, value_at, submit_signature_at, entry_seat_at, entry_held_at, full_entry_length, full_entry_at, full_length}
use Rattle.protocol.specs.Entries.{each_below, place_of, read_entry}
use Rattle.protocol.specs.EntriesLaws.{each_not}
use Rattle.protocol.specs.Message.{Message, Entry, full_form, evidence_form, byte_at, count_of, read_value, read_signature, fits_evidence, read, read_submit, read_notice, read_evidence, seats_of, signed}
use Rattle.protocol.specs.MessageLaws.{submit-fits, full-fits, evidence-fits, read_is_evidence}
use Rattle.protocol.specs.Refusals.{Checks, every, is_full, is_evidence, stranger, bad_signature, not_lower_first, SIGNATURE}
use Rattle.protocol.specs.Signatures.{signature_number}
use Rattle.protocol.specs.SignaturesLaws.{signature-row}
use Rattle.layout.specs.Places.{full}
use Rattle.wire.specs.Reading.{kind_of, seat_place, seats_in, pack_entries}
use Rattle.wire.specs.KindLaws.{read_as_lem}
use Rattle.wire.specs.MessageLaws.{known-entries, full-seats, pack-seats}
use Rattle.wire.specs.WalkLaws.{below_at}
use Rattle.wire.specs.Answers.{entry_of, nth_entry, Found}
use Rattle.wire.specs.declared.entries.Entry as found
use Rattle.wire.specs.declared.read.Kind.{Kind}
use Rattle.wire.specs.declared.read.Kind.TheVariants as kind
use Rattle.forms.specs.Messages.{Formed}
use Rattle.forms.specs.MessagesLaws.{full-kind}
use Rattle.signatures.specs.Places.{PairInside, pair_in}
use Rattle.signatures.specs.SignaturesLaws.{pair_inside, entry_check, pair_check, pair_order, submit_bad, full_bad, evidence_bad, evidence-order}
use Rattle.signatures.specs.Entries.{SubmitTaken, FullTaken, EvidenceTaken}
use Rattle.signatures.specs.declared.verdicts.Pair.{Pair}

-- ---- its bytes

submit-known : (n : ℕ) (bytes : List ℕ) → stranger n (read_submit bytes) ≡ false → byte_at bytes seat_at < n
unfolding stranger seats_of every read_submit
submit-known n bytes s =
    let below : (ltb (byte_at bytes seat_at) n && true) ≡ true = not-false _ s in
    ltb-true (byte_at bytes seat_at) n ((and-eq-true_iff (ltb (byte_at bytes seat_at) n) true).0 below).0

module _ (n : ℕ) (bytes : List ℕ) (t : Kind) (e : t ≡ kind_of (read n bytes)) (s : stranger n (read n bytes) ≡ false) where
  pub submit-taken : t ≡ kind.Submit → SubmitTaken n bytes
  submit-taken g =
      let r = read_as_lem kind.Submit n bytes (sym g ∙ e) in
      record { says = r.0; size = (submit-fits bytes r.1).0; known = submit-known n bytes (rw r.0 at s) }

  pub full-taken : t ≡ kind.Full → FullTaken n bytes
  unfolding full_entry_at
  full-taken g =
      let r = read_as_lem kind.Full n bytes (sym g ∙ e) in
      let fits = full-fits n bytes r.1 in
      let seats = (full-seats n bytes t e g (k n) refl).0 in
      let below = known-entries n (read n bytes) (seats_in (full (k n)) bytes) n (omega arith) s seats in
      record { says = r.0; size = fits.size; count = fits.count; known = λ i h. below_at (seat_place (full (k n))) bytes n (k n) i h below }

  pack-known : (read n bytes ≡ read_evidence bytes) × (fits_evidence n bytes ≡ true) → EvidenceTaken n bytes
  unfolding evidence_form place_of
  pack-known r =
      let below = known-entries n (read n bytes) (seats_in (pack_entries bytes) bytes) n (omega arith) s (pack-seats n bytes r).0 in
      record { says = r.0; ends = (evidence-fits n bytes r.1).size; known = λ i h. below_at (seat_place (pack_entries bytes)) bytes n (count_of bytes) i h below }

  pub old-evidence-taken : t ≡ kind.OldEvidence → EvidenceTaken n bytes
  old-evidence-taken g = pack-known (read_as_lem kind.OldEvidence n bytes (sym g ∙ e))

  pub evidence-taken : t ≡ kind.Evidence → EvidenceTaken n bytes
  evidence-taken g = pack-known (read_as_lem kind.Evidence n bytes (sym g ∙ e))

-- a certificate, and an EVIDENCE, that a call takes
module _ (n round : ℕ) (bytes : List ℕ) where
  pub certificate-taken : Formed n round (is_full (read n bytes)) (read n bytes) → FullTaken n bytes
  certificate-taken f = full-taken n bytes kind.Full (full-kind (read n bytes) f.is) f.known refl

  pub pack-taken : Formed n round (is_evidence (read n bytes)) (read n bytes) → EvidenceTaken n bytes
  pack-taken f = pack-known n bytes _ refl f.known (read_is_evidence n bytes f.is)

-- ---- verdicts

module _ (checks : Checks) (n : ℕ) (bytes : List ℕ) where
  abbrev row : ℕ
  row = first_of (SIGNATURE checks (read n bytes) ∷ [])

  -- SUBMIT's, by the places that the code found
  pub submit-row : SubmitTaken n bytes → (p v q : ℕ) → p ≡ seat_at → v ≡ value_at → q ≡ submit_signature_at → (seat number : ℕ) → seat ≡ byte_at bytes p
      → number ≡ signature_number (checks seat (read_value v bytes) (read_signature q bytes)) → number ≡ row
  submit-row h p v q f g i seat number e j = j ∙ rw (h.says, submit_bad checks bytes, e, f, g, i) (signature-row _)

  -- NOTICE has none, and garbled bytes neither
  pub notice-row : (t : Kind) → t ≡ kind_of (read n bytes) → t ≡ kind.Notice → 0 ≡ row
  unfolding bad_signature signed every read_notice first_of
  notice-row t e g = rw (read_as_lem kind.Notice n bytes (sym g ∙ e)).0

  pub garbled_row : (t : Kind) → t ≡ kind_of (read n bytes) → t ≡ kind.Garbled → 0 ≡ row
  unfolding bad_signature signed every first_of
  garbled_row t e g = rw (read_as_lem kind.Garbled n bytes (sym g ∙ e)).0

-- ---- one signature after another

-- a verdict on both signatures of a pair
pub pair_first : (a b : Bool) (number : ℕ) → number ≡ signature_number a → (number ≡ 0 → ⊥) → number ≡ signature_number (a && b)
unfolding signature_number
pair_first true b number e h = absurd (h e)
pair_first false b number e h = e

pub pair-second : (a b : Bool) (number : ℕ) → 0 ≡ signature_number a → number ≡ signature_number b → number ≡ signature_number (a && b)
unfolding signature_number
pair-second true b number e q = q
pair-second false b number e q = absurd (omega arith)

pub accepted : (b : Bool) → 0 ≡ signature_number b → b ≡ true
unfolding signature_number
accepted true e = refl
accepted false e = absurd (omega arith)

rejected : (b : Bool) (number : ℕ) → number ≡ signature_number b → (number ≡ 0 → ⊥) → (b ≡ false) × (number ≡ 14)
unfolding signature_number
rejected true number e h = absurd (h e)
rejected false number e h = (refl, e)

-- a loop over the signatures of a message, up to a bound
module _ (checks : Checks) (m : Message) (test : ℕ → Bool) (bound : ℕ) (e : bad_signature checks m ≡ not (each_below test bound)) where
  -- one doesn't check
  pub signature-bad : (t : ℕ) → t < bound → (number : ℕ) → number ≡ signature_number (test t) → (number ≡ 0 → ⊥) → number ≡ first_of (SIGNATURE checks m ∷ [])
  unfolding first_of
  signature-bad t l number v d =
      let bad = rejected (test t) number v d in
      bad.1 ∙ sym (rw (e, each_not test t bound l bad.0))

  -- all do
  pub signatures-good : each_below test bound ≡ true → 0 ≡ first_of (SIGNATURE checks m ∷ [])
  unfolding first_of
  signatures-good h = rw (e, h)

-- ---- the pairs of EVIDENCE

module _ (n : ℕ) (bytes : List ℕ) (h : EvidenceTaken n bytes) where
  -- the pair of an index lies in the message
  pub pair-found : (t : ℕ) → t < count_of bytes → (p : Pair) → p ≡ pair_in bytes t → PairInside n p bytes
  pair-found t l p e = rw e (pair_inside bytes h.ends t l n (h.known t l))

  -- all its signatures check: 14
  pub pairs-signed : (checks : Checks) → bad_signature checks (read n bytes) ≡ not (each_below (pair_check checks bytes) (count_of bytes))
  pairs-signed checks = rw h.says (evidence_bad checks bytes h.ends)

  -- in each its first value is lower than the second: 15
  pub pairs-ordered : not_lower_first (read n bytes) ≡ not (each_below (pair_order bytes) (count_of bytes))
  pairs-ordered = rw h.says (evidence-order bytes h.ends)

-- ---- the entries of FULL, as a reader finds them

head_seat : List Entry → ℕ
head_seat [] = 0
head_seat (e ∷ es) = e.seat

ne_nil : {e : Entry} → e ∷ [] ≡ [] → ⊥
ne_nil q = let z : ◌≡◌ {A = ℕ} 1 0 = ap length q in omega arith

module _ (n : ℕ) (bytes : List ℕ) (h : FullTaken n bytes) where
  -- its value lies in it
  pub value-inside : value_at + value_length ≤ length bytes
  unfolding full_length full_entry_at
  value-inside = omega (arith, h.size)

  -- all its signatures check: 14
  pub entries-signed : (checks : Checks) → bad_signature checks (read n bytes) ≡ not (each_below (entry_check checks bytes) (k n))
  entries-signed checks = rw h.says (full_bad checks bytes n)

  -- there is an entry below k, and none at k
  entry-below : (i : ℕ) → i < k n → nth_entry i bytes ≡ read_entry full_form (full_entry_at i) bytes ∷ []
  unfolding nth_entry full_length
  entry-below i l = rw (h.count, le-leb (full_entry_at (k n)) (length bytes) (omega (arith, h.size)), lt-ltb i (k n) l)

  entry_past : (i : ℕ) → k n ≤ i → nth_entry i bytes ≡ []
  unfolding nth_entry full_length
  entry_past i l = rw (h.count, le-leb (full_entry_at (k n)) (length bytes) (omega (arith, h.size)), le-ltb i (k n) l)

  module _ (t : ℕ) where
    -- the reader found an entry: that of its index
    pub found-entry : (e : found.Entry) → Found t bytes (Some e) → (t < k n) × (e.seat ≡ byte_at bytes (full_entry_at t + entry_seat_at)) × (e.signature ≡ full_entry_at t + entry_held_at)
    unfolding entry_of read_entry full_form head_seat
    found-entry e f = go (dec_lt t (k n))
      where
        go : Dec (t < k n) → (t < k n) × (e.seat ≡ byte_at bytes (full_entry_at t + entry_seat_at)) × (e.signature ≡ full_entry_at t + entry_held_at)
        go (yes l) =
            let same = f.0 ∙ entry-below t l in
            (l, ap (λ (es : List Entry). head_seat es) same, f.1)
        go (no l) = absurd (ne_nil (f.0 ∙ entry_past t (omega arith)))

    -- it found none: all were before
    pub found-end : Found t bytes None → k n ≤ t
    unfolding entry_of
    found-end f = go (dec_lt t (k n))
      where
        go : Dec (t < k n) → k n ≤ t
        go (yes l) = absurd (ne_nil (sym (f.0 ∙ entry-below t l)))
        go (no l) = omega arith

    -- its seat is one of n, and its signature lies in the message
    pub entry-fits : (e : found.Entry) → Found t bytes (Some e) → (e.seat < n) × (e.signature + signature_length ≤ length bytes)
    unfolding full_length full_entry_at full_entry_length signature_length
    entry-fits e f =
        let is = found-entry e f in
        (rw is.1 (h.known t is.0), omega (arith, is.0, is.2, h.size))

    -- the verdict on an entry found is that of its index
    pub entry-verdict : (checks : Checks) (e : found.Entry) → Found t bytes (Some e) → (v : ℕ) → v ≡ value_at
        → (number : ℕ) → number ≡ signature_number (checks e.seat (read_value v bytes) (read_signature e.signature bytes)) → number ≡ signature_number (entry_check checks bytes t)
    entry-verdict checks e f v q number told = let is = found-entry e f in told ∙ rw (is.1, is.2, q)
