-- The entry of a seat in a pack whose seats rise, as code reads it, and the pack that two become.
-- Assumes nothing.
use Rattle.std.specs.Prelude.{◌≡◌, refl, true, ℕ, ◌+◌, ◌-◌, ◌*◌, ◌^◌, ◌≤◌, ◌<◌, ltb, take, drop}
use Rattle.std.proofs.Math.Path.{sym, ap}
use Rattle.std.proofs.Common.{◌∙◌, inl, inr, ⊎_elim, arith}
use mathlib.Core.List.{List, [], ◌∷◌, ◌++◌, map}
use Rattle.std.proofs.Math.Nat.{mul-suc, mul-le-mul_left}
use Rattle.std.proofs.Math.Dec.{eqb}
use Rattle.std.proofs.Math.ListN.{length}
use borrow.Author.Tests.{eqb-true, not-false}
use Rattle.octets.specs.Octets.{part, be}
use Rattle.octets.specs.OctetsLaws.{length_part}
use Rattle.octets.specs.WriteLaws.{patch_none}
use Rattle.quorum.specs.Quorum.{bit, In, has, size, shared, union, less, all, seats}
use Rattle.quorum.specs.QuorumLaws.{bit_cases, bit_lt_two, bit-union, bit-less, has_true, has_false, in_union, in_less, union_lt, size_le, length-seats}
use Rattle.refusal.specs.Refusal.{first_of, numbers, nonzero}
use Rattle.refusal.specs.RefusalLaws.{refused-later, passed_first}
use Rattle.protocol.specs.Layout.{entry_at, evidence_count_at, evidence_start, evidence_entry_length, evidence_entry_at, evidence_length, joined_out_length}
use Rattle.protocol.specs.Entries.{Form, place_of, render_entry, render_entries, entry_commands, read_entries, form_seats}
use Rattle.protocol.specs.EntriesLaws.{each_at, length-read, entry_at_lem, entry_back}
use Rattle.protocol.specs.Message.{Pair, ValuesEach, Message, Evidence, evidence_form, byte_at, read_round, read_evidence, read, render, entry_seats, seats_of}
use Rattle.protocol.specs.MessageLaws.{evidence_faithful, evidence-fits}
use Rattle.protocol.specs.Certificate.{set_of}
use Rattle.protocol.specs.Joining.{pairs_in, pair_among, pack_set, joined_pair, joined_pairs, joined_of}
use Rattle.protocol.specs.JoiningLaws.{new_cases, new-read}
use Rattle.protocol.specs.SeatLaws.{entries_lt, entry-index, entry_found}
use Rattle.protocol.specs.Refusals.{Checks, every, rising, stranger, disorder, is_new_evidence, message_conditions, pack_conditions, joined_conditions}
use Rattle.layout.specs.Places.{evidence}
use Rattle.layout.specs.declared.Entries.{Entries}
use Rattle.wire.specs.Reading.{kind_of}
use Rattle.wire.specs.declared.read.Kind.TheVariants as kind
use Rattle.forms.specs.Messages.{Formed}
use Rattle.wire_write.specs.Writing.{Wrote, pack_head}
use Rattle.wire_write.specs.WritingLaws.{Going, going_skip, going_room, going_on, list_written}
use Rattle.validate.specs.CallsLaws.{pack-formed}
use Rattle.joining.specs.Packs.{Pack, Packs, wanted_entry}

abbrev pub form : Form Pair
form = evidence_form ValuesEach

-- ---- a seat's entry

-- the place of an entry, as code reckons it
pub placed : {entries : Entries} {count i j at : ℕ} → entries ≡ evidence count → i ≡ j → at ≡ entry_at entries.start entries.length i → at ≡ evidence_entry_at j
unfolding evidence_entry_at
placed e f g = g ∙ rw (e, f)

module _ (n : ℕ) (bytes : List ℕ) (mask : ℕ) (h : Pack n bytes mask) where
  abbrev count : ℕ
  count = byte_at bytes evidence_count_at

  abbrev entries : List Pair
  entries = read_entries form count bytes

  says : read n bytes ≡ Evidence (read_round bytes) ValuesEach entries
  unfolding read_evidence
  says = let r = new-read n bytes h.new in r.0 ∙ rw r.2

  ends : length bytes ≡ place_of form count
  ends = let r = new-read n bytes h.new in rw r.2 at (evidence-fits n bytes r.1).size

  commands : entry_commands form count bytes ≡ true
  commands = let r = new-read n bytes h.new in rw r.2 at (evidence-fits n bytes r.1).commands

  pairs : pairs_in (read n bytes) ≡ entries
  unfolding pairs_in
  pairs = rw says

  set : mask ≡ set_of (form_seats form entries)
  unfolding entry_seats
  set = h.sets ∙ rw says

  known : every (λ (s : ℕ). ltb s n) (form_seats form entries) ≡ true
  unfolding stranger seats_of entry_seats
  known = not-false _ (rw says at h.known)

  ordered : rising (form_seats form entries) ≡ true
  unfolding disorder entry_seats
  ordered = not-false _ (rw says at h.ordered)

  pub pack_lt : mask < 2 ^ n
  pack_lt = entries_lt form n entries ordered known mask set

  module _ (s : ℕ) (l : s < n) (i : In s mask) where
    abbrev below : ℕ
    below = size (shared mask (all s))

    index : below < count
    index = omega (arith, entry-index form n entries ordered known mask set s l i, length-read form count bytes)

    pub entry-inside : evidence_entry_at (below + 1) ≤ length bytes
    unfolding evidence_form place_of evidence_entry_at evidence_entry_length
    entry-inside = let more : below + 1 ≤ count = omega (arith, index) in omega (arith, ends, mul-le-mul_left evidence_entry_length more)

    entry-bytes : part (evidence_entry_at below) evidence_entry_length bytes ≡ render_entry form (pair_among (pairs_in (read n bytes)) s)
    unfolding evidence_form place_of evidence_entry_at evidence_entry_length entry_commands pair_among
    entry-bytes =
        let d : Pair = record { seat = 0; lower_value = []; higher_value = []; lower = []; higher = [] } in
        let found = entry_found form n entries ordered known mask set s l i (λ (p : Pair). p) pair_among (λ p ps t. refl) d in
        let read_at = entry_at_lem form count below bytes d index in
        let command = eqb-true _ _ (each_at (λ (j : ℕ). eqb (byte_at bytes (place_of form j)) form.command) below count index commands) in
        sym (rw (pairs, found, read_at) (entry_back form (evidence_faithful ValuesEach) bytes (place_of form below) (omega (arith, entry-inside)) command))

    entry_length : length (render_entry form (pair_among (pairs_in (read n bytes)) s)) ≡ evidence_entry_length
    unfolding evidence_entry_at
    entry_length = ap length (sym entry-bytes) ∙ length_part (evidence_entry_at below) evidence_entry_length bytes (omega (arith, entry-inside, mul-suc evidence_entry_length below))

    -- as code reads it
    pub entry_read : {at end : ℕ} → at ≡ evidence_entry_at below → end ≡ evidence_entry_at (below + 1)
        → (take (end - at) (drop at bytes) ≡ render_entry form (pair_among (pairs_in (read n bytes)) s)) × (length (take (end - at) (drop at bytes)) ≡ evidence_entry_length)
    unfolding part evidence_entry_at
    entry_read {at} {end} x y =
        let long : end - at ≡ evidence_entry_length = omega (arith, mul-suc evidence_entry_length below) in
        rw (long, x) (entry-bytes, ap length entry-bytes ∙ entry_length)

-- ---- the entries of the seats of either, one after another

-- the bytes that an entry holds, by its whole length
entry-holds : (x : Pair) → length (render_entry form x) ≡ evidence_entry_length → length (form.bytes x) ≡ form.held
unfolding render_entry evidence_form evidence_entry_length
entry-holds x e = omega arith

-- nothing is written of an entry that isn't wanted
unwritten : (s set : ℕ) (x : Pair) {at end : ℕ} {before after : List ℕ} → Wrote at (wanted_entry (has s set) x) before after end → bit s set ≡ 0 → (end ≡ at) × (after ≡ before)
unfolding wanted_entry
unwritten s set x {at} {end} {before} {after} u z =
    let w : Wrote at [] before after end = rw ((has_false s set).1 z) at u in
    (omega (arith, w.ends), w.wrote ∙ sym (patch_none at before))

module _ (n a b : ℕ) (first second : List ℕ) (p : Pack n first a) (q : Pack n second b) where
  -- a seat's pair in either pack, and in the one that they become
  abbrev of_first_lem : ℕ → Pair
  of_first_lem s = pair_among (pairs_in (read n first)) s

  abbrev of_second_lem : ℕ → Pair
  of_second_lem s = pair_among (pairs_in (read n second)) s

  abbrev of_joined : ℕ → Pair
  of_joined s = joined_pair (read n first) (read n second) s

  joined_in : (s : ℕ) → In s a → of_joined s ≡ of_first_lem s
  unfolding joined_pair
  joined_in s i = rw (← p.sets, (has_true s a).1 i)

  joined-out : (s : ℕ) → bit s a ≡ 0 → of_joined s ≡ of_second_lem s
  unfolding joined_pair
  joined-out s z = rw (← p.sets, (has_false s a).1 z)

  -- a turn of the loop over seats, where `rest` is the seats that the second alone has
  module _ {rest : ℕ} (alone : rest ≡ less b a) {at s end : ℕ} {before out : List ℕ} (g : Going form of_joined n (union a b) at before s end out) (l : s < n) (room : at + evidence_entry_length * length (seats n (union a b)) ≤ length before) where
    in_rest : In s rest → In s b × (bit s a ≡ 0)
    in_rest i = (in_less s b a).0 (rw alone at i)

    pub rest_in_second : In s rest → In s b
    rest_in_second i = (in_rest i).0

    bit-rest : bit s rest ≡ bit s b - bit s a
    bit-rest = rw alone (bit-less s b a)

    pub room_first : In s a → end + evidence_entry_length ≤ length out
    unfolding evidence_form evidence_entry_length
    room_first i = going_room g l ((in_union s a b).1 (inl i)) room

    module _ {between : ℕ} {mid : List ℕ} (u : Wrote end (wanted_entry (has s a) (of_first_lem s)) out mid between) where
      pub room-second : In s rest → between + evidence_entry_length ≤ length mid
      unfolding evidence_form evidence_entry_length
      room-second i =
          let none = unwritten s a (of_first_lem s) u (in_rest i).1 in
          rw (none.0, none.1) (going_room g l ((in_union s a b).1 (inr (in_rest i).0)) room)

      module _ {e : ℕ} {after : List ℕ} (v : Wrote between (wanted_entry (has s rest) (of_second_lem s)) mid after e) where
        by_first : In s a → Going form of_joined n (union a b) at before (s + 1) e after
        unfolding wanted_entry evidence_form evidence_entry_length
        by_first i =
            let nothing = unwritten s rest (of_second_lem s) v (omega (arith, bit-rest, bit_lt_two s b)) in
            let w : Wrote end (render_entry form (of_first_lem s)) out after e = rw (nothing.0, nothing.1) (rw ((has_true s a).1 i) at u) in
            going_on g l ((in_union s a b).1 (inl i)) room (of_first_lem s) (sym (joined_in s i)) (entry-holds (of_first_lem s) (entry_length n first a p s l i)) w

        by_second : bit s a ≡ 0 → In s b → Going form of_joined n (union a b) at before (s + 1) e after
        unfolding wanted_entry evidence_form evidence_entry_length
        by_second z j =
            let none = unwritten s a (of_first_lem s) u z in
            let w : Wrote end (render_entry form (of_second_lem s)) out after e = rw ((has_true s rest).1 (omega (arith, bit-rest)), none.0, none.1) at v in
            going_on g l ((in_union s a b).1 (inr j)) room (of_second_lem s) (sym (joined-out s z)) (entry-holds (of_second_lem s) (entry_length n second b q s l j)) w

        by_neither : bit s a ≡ 0 → bit s b ≡ 0 → Going form of_joined n (union a b) at before (s + 1) e after
        by_neither z y =
            let none = unwritten s a (of_first_lem s) u z in
            let nothing = unwritten s rest (of_second_lem s) v (omega (arith, bit-rest)) in
            rw (nothing.0, nothing.1, none.0, none.1) (going_skip g l (omega (arith, bit-union s a b)))

        pub seat-done : Going form of_joined n (union a b) at before (s + 1) e after
        seat-done = ⊎_elim (λ z. ⊎_elim (by_neither z) (by_second z) (bit_cases s b)) by_first (bit_cases s a)

-- ---- two packs that aren't refused

pub joined-nonzero : (checks : Checks) (n round : ℕ) (m : Message) → nonzero (numbers (joined_conditions checks n round m)) ≡ true
unfolding joined_conditions pack_conditions message_conditions nonzero numbers
joined-nonzero checks n round m = refl

pub packs-passed : (checks : Checks) (n round : ℕ) (a b : Message) {number : ℕ} → number ≡ first_of (joined_conditions checks n round a ++ joined_conditions checks n round b) → number ≡ 0 → Packs n round a b
unfolding joined_conditions
packs-passed checks n round a b e z =
    let rows = joined_conditions checks n round in
    let all = sym e ∙ z in
    let p = passed_first (rows a) (rows b) all in
    let q = refused-later (rows a) (rows b) 0 (sym p) (joined-nonzero checks n round a) refl ∙ all in
    record { first = pack-formed checks n round (is_new_evidence a) a 0 (sym p) refl; second = pack-formed checks n round (is_new_evidence b) b 0 (sym q) refl }

-- one of them, with its set as the code found it
pub pack_of_lem : (n round : ℕ) (bytes : List ℕ) {set : ℕ} → Formed n round (is_new_evidence (read n bytes)) (read n bytes) → set ≡ pack_set (read n bytes) → Pack n bytes set
pack_of_lem n round bytes f e = record { new = f.is; known = f.known; ordered = f.ordered; sets = e }

pub new-kind : (m : Message) → is_new_evidence m ≡ true → kind.Evidence ≡ kind_of m
unfolding kind_of
new-kind m e = new_cases (λ x. kind.Evidence ≡ kind_of x) m e (λ ρ ps. refl)

-- ---- the pack that they become

-- the seats of either, and the room for their entries
pub record Room (n set : ℕ) : Type 0 where
  pub below : set < 2 ^ n
  pub few : size set ≤ n
  pub many : length (seats n set) ≡ size set
  pub fits : evidence_start + evidence_entry_length * length (seats n set) ≤ joined_out_length n

pub joined-room : (n a b : ℕ) → a < 2 ^ n → b < 2 ^ n → Room n (union a b)
unfolding joined_out_length evidence_length evidence_entry_at
joined-room n a b la lb =
    let below = union_lt n a b la lb in
    let few = size_le n (union a b) below in
    let many = length-seats n (union a b) below in
    record { below = below; few = few; many = many; fits = rw many (omega (arith, mul-le-mul_left evidence_entry_length few)) }

pub joined-written : (n round : ℕ) (first second : List ℕ) {a b count start end : ℕ} {before one after : List ℕ} → a ≡ pack_set (read n first) → b ≡ pack_set (read n second)
    → union a b < 2 ^ n → count ≡ size (union a b) → Wrote 0 (pack_head round count) before one start
    → Wrote start (render_entries form (map (joined_pair (read n first) (read n second)) (seats n (union a b)))) one after end
    → Wrote 0 (render (joined_of n round (read n first) (read n second))) before after end
unfolding render joined_of joined_pairs be
joined-written n round first second {a} {b} e f below c u v =
    rw (← e, ← f) (list_written form (joined_pair (read n first) (read n second)) n (union a b) (0x07 ∷ be 2 round) u v (omega arith) below c)
