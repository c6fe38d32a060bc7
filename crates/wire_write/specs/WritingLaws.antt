-- Laws of writes one after another, and of a loop that writes an entry for each seat of a set.
-- Assumes nothing.
use Rattle.std.specs.Prelude.{◌≡◌, refl, Bool, true, false, ℕ, suc, ◌+◌, ◌*◌, ◌^◌, ◌≤◌, ◌<◌, set}
use Rattle.std.proofs.Math.Path.{sym}
use Rattle.std.proofs.Common.{ap, ◌∙◌, ⊎_elim, mul-zero, mul-suc, arith, take-append-drop}
use mathlib.Core.List.{List, [], ◌∷◌, ◌++◌, append-nil, map, map-append}
use Rattle.std.proofs.Math.Nat.{add-zero, mul-le-mul_left}
use Rattle.std.proofs.Math.Numerals.{add-one}
use Rattle.std.proofs.Math.ListN.{length, length-append}
use Rattle.std.proofs.lemmas.List.{length-map, set_split}
use Rattle.octets.specs.Octets.{patch, be}
use Rattle.octets.specs.OctetsLaws.{length-be, patch-patch, length-patch}
use Rattle.quorum.specs.Quorum.{k, bit, In, shared, seats, size}
use Rattle.quorum.specs.QuorumLaws.{bit_cases, in_shared, bit-outside, lt_of_none_outside, size-within, seats_in_lem, seats-out, length-seats}
use Rattle.protocol.specs.Layout.{value_length, operands_at, notice_length, entry_length, evidence_entry_length, evidence_entry_at, evidence_length}
use Rattle.protocol.specs.Values.{is_lower}
use Rattle.protocol.specs.Entries.{Form, render_entry, render_entries}
use Rattle.protocol.specs.EntriesLaws.{entries_append, length-entry}
use Rattle.protocol.specs.Message.{render}
use Rattle.protocol.specs.Certificate.{Certificate, ordered_evidence, evidence_of}
use Rattle.protocol.specs.SeatLaws.{seats-split}
use Rattle.wire_write.specs.Writing.{Wrote, head}

-- ---- one write after another

pub one_byte : (at b : ℕ) (xs : List ℕ) → at < length xs → Wrote at (b ∷ []) xs (set xs at b) (at + 1)
unfolding patch
one_byte at b xs h = record { ends = refl; wrote = set_split xs at b h ∙ rw (← add-one at) }

pub wrote_then : {at a e : ℕ} {us vs before between after : List ℕ} → Wrote at us before between a → Wrote a vs between after e
    → at ≤ length before → Wrote at (us ++ vs) before after e
wrote_then {at} {a} {e} {us} {vs} {before} u v h =
    record {
      ends = rw length-append (omega (arith, u.ends, v.ends));
      wrote = v.wrote ∙ rw (u.wrote, u.ends) (patch-patch at us vs before h);
    }

pub length-head : (command round seat : ℕ) (value : List ℕ) → length value ≡ value_length → length (head command round seat value) ≡ notice_length
unfolding notice_length
length-head command round seat value h = simp (length-append, length-be) (omega arith)

pub length-command : (command round : ℕ) → length (command ∷ be 2 round) ≡ operands_at
length-command command round = rw length-be

-- ---- an entry for each seat of a set

-- state of a loop over the seats of the set m at seat s: the entry f is written for each seat passed
pub record Going {A : Type 0} (form : Form A) (f : ℕ → A) (n m at : ℕ) (before : List ℕ) (s end : ℕ) (out : List ℕ) : Type 0 where
  pub below : s ≤ n
  pub long : length out ≡ length before
  pub counted : end ≡ at + entry_length form.held * length (seats s m)
  pub written : Wrote at (render_entries form (map f (seats s m))) before out end

module _ {A : Type 0} {form : Form A} {f : ℕ → A} {n m at : ℕ} {before : List ℕ} where
  pub going_none : at ≤ length before → Going form f n m at before 0 at before
  unfolding render_entries seats patch
  going_none h =
      record {
        below = omega arith;
        long = refl;
        counted = rw (mul-zero (entry_length form.held), add-zero at);
        written = record { ends = sym (add-zero at); wrote = rw add-zero (sym (take-append-drop at before)) };
      }

  module _ {s end : ℕ} {out : List ℕ} (g : Going form f n m at before s end out) where
    pub going_skip : s < n → bit s m ≡ 0 → Going form f n m at before (s + 1) end out
    going_skip l z =
        record {
          below = omega arith;
          long = g.long;
          counted = rw (seats-out s m z) g.counted;
          written = rw (seats-out s m z) g.written;
        }

    module _ (l : s < n) (i : In s m) (room : at + entry_length form.held * length (seats n m) ≤ length before) where
      pub going_room : end + entry_length form.held ≤ length out
      going_room =
          let w = entry_length form.held in
          let split = seats-split n s m l i in
          let more : suc (length (seats s m)) ≤ length (seats n m) = omega (arith, ap length split.1, length-append (seats s m) (s ∷ split.0)) in
          omega (arith, mul-le-mul_left w more, mul-suc w (length (seats s m)), g.counted, g.long)

      -- the entry e is written
      pub going_on : (e : A) → e ≡ f s → length (form.bytes e) ≡ form.held → {next : ℕ} {after : List ℕ} → Wrote end (render_entry form e) out after next
          → Going form f n m at before (s + 1) next after
      unfolding render_entries
      going_on e q h v =
          let sized = length-entry form e h in
          let fits : end + length (render_entry form e) ≤ length out = rw sized going_room in
          let passed = render_entries form (map f (seats s m)) in
          let all : render_entries form (map f (seats (s + 1) m)) ≡ passed ++ render_entry form e =
          rw (seats_in_lem s m i, map-append f (seats s m) (s ∷ []), entries_append form (map f (seats s m)) (f s ∷ []), q) (ap (λ (x : List ℕ). passed ++ x) (append-nil (render_entry form (f s)))) in
          record {
            below = omega arith;
            long = rw v.wrote (length-patch end (render_entry form e) out fits ∙ g.long);
            counted = rw (seats_in_lem s m i, length-append (seats s m) (s ∷ []), add-one (length (seats s m)), mul-suc) (omega (arith, v.ends, sized, g.counted));
            written = rw all (wrote_then g.written v (omega (arith, room)));
          }

    -- the loop's end
    pub going_done : s ≡ n → Wrote at (render_entries form (map f (seats n m))) before out end × (end ≡ at + entry_length form.held * length (seats n m))
    going_done e = rw (← e) (g.written, g.counted)

-- a message from its parts: a front, the count, and the entries
pub list_written : {A : Type 0} (form : Form A) (f : ℕ → A) (n m : ℕ) (front : List ℕ) {at count a end : ℕ} {before one after : List ℕ}
    → Wrote at (front ++ count ∷ []) before one a → Wrote a (render_entries form (map f (seats n m))) one after end
    → at ≤ length before → m < 2 ^ n → count ≡ size m
    → Wrote at (front ++ length (map f (seats n m)) ∷ [] ++ render_entries form (map f (seats n m))) before after end
list_written form f n m front {count = count} u v h inside c =
    let counted : length (map f (seats n m)) ≡ count = length-map (seats n m) f ∙ length-seats n m inside ∙ sym c in
    rw counted (wrote_then u v h)

-- EVIDENCE from two certificates in either order, by a test of their values
module _ (n round mask : ℕ) (c d : Certificate) {t : Bool} (e : t ≡ is_lower c.value d.value) {at : ℕ} {before after : List ℕ} {end : ℕ} where
  pub given-lower : t ≡ true → Wrote at (render (ordered_evidence n round mask c d)) before after end → Wrote at (render (evidence_of n round mask c d)) before after end
  unfolding evidence_of
  given-lower f w = rw (← e, f) w

  pub given-higher : t ≡ false → Wrote at (render (ordered_evidence n round mask d c)) before after end → Wrote at (render (evidence_of n round mask c d)) before after end
  unfolding evidence_of
  given-higher f w = rw (← e, f) w

-- seats that two sets share, as the set to write: all are below n and in both
module _ (n a b mask : ℕ) (among : (s : ℕ) → In s mask → In s (shared a b)) where
  in_first_lem : (s : ℕ) → In s mask → In s a
  in_first_lem s i = ((in_shared s a b).0 (among s i)).0

  pub shared-seats : a < 2 ^ n → (mask < 2 ^ n) × ((s : ℕ) → In s mask → In s a) × ((s : ℕ) → In s mask → In s b)
  shared-seats below = (
    lt_of_none_outside n mask (λ s l. ⊎_elim (λ z. z) (λ i. absurd (omega (arith, in_first_lem s i, bit-outside s n a below l))) (bit_cases s mask)),
    in_first_lem,
    λ s i. ((in_shared s a b).0 (among s i)).1,
  )

  -- they are at most k, where the first set has no more
  pub shared-room : size a ≤ k n → evidence_length (size mask) ≤ evidence_length (k n)
  unfolding evidence_length evidence_entry_at
  shared-room h =
      let few : size mask ≤ k n = omega (arith, size-within a mask in_first_lem) in
      omega (arith, mul-le-mul_left evidence_entry_length few)
