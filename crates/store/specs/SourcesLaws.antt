-- The signature of a seat in a FULL whose entries rise, and in any source, as code reads it.
-- Assumes nothing.
use Rattle.std.specs.Prelude.{◌≡◌, refl, true, false, ℕ, ◌+◌, ◌^◌, ◌≤◌, ◌<◌, length}
use Rattle.std.proofs.Math.Path.{sym}
use Rattle.std.proofs.Common.{ap, ◌∙◌, arith}
use Rattle.std.proofs.Math.Bool.{and-eq-true_iff}
use mathlib.Core.List.{List, []}
use Rattle.std.proofs.Math.Dec.{ltb}
use borrow.Author.Tests.{not-false}
use Rattle.quorum.specs.Quorum.{k, In, size, shared, all, seats}
use Rattle.quorum.specs.QuorumLaws.{length-seats}
use Rattle.protocol.specs.Layout.{signature_length, value_at, seat_at, full_entry_length, full_entry_at, full_length, banks, store_length, slot_at}
use Rattle.protocol.specs.EntriesLaws.{length-read, entry_at_lem}
use Rattle.protocol.specs.Entries.{place_of, read_entry, read_entries, form_seats}
use Rattle.protocol.specs.Message.{Entry, byte_at, read, full_form, read_value, read_signature, read_full, fits_full, entry_seats, seats_of}
use Rattle.protocol.specs.MessageLaws.{full-fits, read_is_full}
use Rattle.protocol.specs.SeatLaws.{entries_lt, entries-many, entry-index, entry_found}
use Rattle.protocol.specs.Certificate.{slot, set_of, signature_of, certificate_of, certificate_in}
use Rattle.protocol.specs.Refusals.{every, rising, is_full, stranger, disorder}
use Rattle.layout.specs.Places.{bank_of}
use Rattle.layout.specs.declared.Bank.{Bank}
use Rattle.store.specs.Sources.{bytes_of, Sound, entry_place, Stands, Readable, signature_at, signature_from, certificate_from}
use Rattle.store.specs.StoreLaws.{length-signature, bank_listed, slot-inside, slot_read}
use Rattle.store.specs.declared.sources.Place.{Place}
use Rattle.store.specs.declared.sources.Place.TheVariants as place
use Rattle.store.specs.declared.sources.Source.{Source}

-- ---- a FULL whose entries rise

abbrev pub entries_in : ℕ → List ℕ → List Entry
entries_in n bytes = read_entries full_form (k n) bytes

module _ (n : ℕ) (bytes : List ℕ) (mask : ℕ) (h : Sound n bytes mask) where
  is_full_lem : (fits_full n bytes ≡ true) × (read n bytes ≡ read_full n bytes)
  is_full_lem = read_is_full n bytes h.full

  sound-set : mask ≡ set_of (form_seats full_form (entries_in n bytes))
  unfolding certificate_in read_full certificate_of
  sound-set = h.set ∙ rw is_full_lem.1

  sound-signature : (certificate_in (read n bytes)).signature ≡ signature_of (entries_in n bytes)
  unfolding certificate_in read_full certificate_of
  sound-signature = rw is_full_lem.1

  sound-known : every (λ (s : ℕ). ltb s n) (form_seats full_form (entries_in n bytes)) ≡ true
  unfolding stranger seats_of entry_seats read_full every
  sound-known =
      let all_Known = not-false _ (rw is_full_lem.1 at h.known) in
      ((and-eq-true_iff (ltb (byte_at bytes seat_at) n) (every (λ (s : ℕ). ltb s n) (form_seats full_form (entries_in n bytes)))).0 all_Known).1

  sound-ordered : rising (form_seats full_form (entries_in n bytes)) ≡ true
  unfolding disorder entry_seats read_full
  sound-ordered = not-false _ (rw is_full_lem.1 at h.ordered)

  sound_lt : mask < 2 ^ n
  sound_lt = entries_lt full_form n (entries_in n bytes) sound-ordered sound-known mask sound-set

  sound-many : length (seats n mask) ≡ k n
  sound-many = entries-many full_form n (entries_in n bytes) sound-ordered sound-known mask sound-set ∙ length-read full_form (k n) bytes

  module _ (s : ℕ) (l : s < n) (i : In s mask) where
    index : size (shared mask (all s)) < k n
    index = omega (arith, entry-index full_form n (entries_in n bytes) sound-ordered sound-known mask sound-set s l i, length-read full_form (k n) bytes)

    entry-inside : entry_place mask s + signature_length ≤ length bytes
    unfolding entry_place full_length full_entry_at full_entry_length signature_length
    entry-inside = omega (arith, index, (full-fits n bytes is_full_lem.0).size)

    entry-signature : read_signature (entry_place mask s) bytes ≡ (certificate_in (read n bytes)).signature s
    unfolding entry_place full_entry_at full_entry_length place_of read_entry full_form read_signature signature_of
    entry-signature =
        let d : Entry = record { seat = 0; signature = [] } in
        let found = entry_found full_form n (entries_in n bytes) sound-ordered sound-known mask sound-set s l i (λ (e : Entry). e.signature) signature_of (λ e es t. refl) d in
        let read = entry_at_lem full_form (k n) (size (shared mask (all s))) bytes d index in
        rw (sound-signature, found, read)

-- ---- a source's signature, as code reads it at place p

module _ (n : ℕ) (source : Source) (bytes : List ℕ) (readable : Readable n source bytes) (s : ℕ) (l : s < n) (p : ℕ) where
  module _ (i : In s source.seats) (f : source.place ≡ place.Entries) (e : p ≡ entry_place source.seats s) where
    sound_source : Sound n bytes source.seats
    sound_source = rw f at readable.stands

    pub entries-inside : p + signature_length ≤ length bytes
    entries-inside = rw e (entry-inside n bytes source.seats sound_source s l i)

    pub entries-signature : (g : List ℕ) → g ≡ read_signature p bytes → (g ≡ signature_from n source bytes s) × (length g ≡ signature_length)
    unfolding signature_at
    entries-signature g at = (at ∙ rw (e, f) (entry-signature n bytes source.seats sound_source s l i), rw at (length-signature p bytes entries-inside))

  module _ (bank : Bank) (f : source.place ≡ place.Slots bank) (e : p ≡ slot_at n (bank_of bank) s) where
    stored : store_length n ≤ length bytes
    stored = rw f at readable.stands

    pub slots-inside : p + signature_length ≤ length bytes
    slots-inside = slot-inside n bank s l bytes stored p e

    pub slots-signature : (g : List ℕ) → g ≡ read_signature p bytes → (g ≡ signature_from n source bytes s) × (length g ≡ signature_length)
    unfolding signature_at
    slots-signature g at = rw f (slot_read n bank s l bytes stored p e g at)

pub length-signature_from : (n : ℕ) (source : Source) (bytes : List ℕ) → Readable n source bytes → (s : ℕ) → s < n → In s source.seats
    → length (signature_from n source bytes s) ≡ signature_length
length-signature_from n source bytes readable s l i = go source.place refl
  where
    go : (p : Place) → source.place ≡ p → length (signature_from n source bytes s) ≡ signature_length
    go place.Entries f =
        let found = entries-signature n source bytes readable s l (entry_place source.seats s) i f refl _ refl in
        ap length (sym found.0) ∙ found.1
    go (place.Slots bank) f =
        let found = slots-signature n source bytes readable s l (slot_at n (bank_of bank) s) bank f refl _ refl in
        ap length (sym found.0) ∙ found.1

-- ---- while a certificate is held

-- the signature of a seat stays the same while its slots do
pub same_signature : (n : ℕ) (source : Source) (store before m : List ℕ) (s : ℕ)
    → ((b : ℕ) → b < length banks → slot n b store s ≡ slot n b before s)
    → signature_from n source (bytes_of source.place store m) s ≡ signature_from n source (bytes_of source.place before m) s
unfolding signature_at bytes_of
same_signature n source store before m s h = go source.place
  where
    go : (p : Place) → signature_at n p (bytes_of p store m) s ≡ signature_at n p (bytes_of p before m) s
    go place.Entries = refl
    go (place.Slots bank) = h (bank_of bank) (bank_listed bank)

-- a source stays readable
pub still-readable : (n : ℕ) (source : Source) (store before m : List ℕ) → length store ≡ length before
    → Readable n source (bytes_of source.place before m) → Readable n source (bytes_of source.place store m)
unfolding bytes_of
still-readable n source store before m long r = record { inside = r.inside; stands = go source.place r.stands }
  where
    go : (p : Place) → Stands n p source.seats (bytes_of p before m) → Stands n p source.seats (bytes_of p store m)
    go place.Entries h = h
    go (place.Slots bank) h = omega arith

-- ---- a FULL as a source, with `seats` the set of its entries' seats

abbrev pub in_full : ℕ → Source
in_full seats = record { place = place.Entries; seats = seats }

module _ (n : ℕ) (bytes : List ℕ) (full : is_full (read n bytes) ≡ true) where
  pub full-value : (certificate_in (read n bytes)).value ≡ read_value value_at bytes
  unfolding certificate_in read_full certificate_of
  full-value = rw (read_is_full n bytes full).1

  module _ (known : stranger n (read n bytes) ≡ false) (ordered : disorder (read n bytes) ≡ false) (mask : ℕ) (set : mask ≡ set_of (entry_seats (read n bytes))) where
    set_in : mask ≡ (certificate_in (read n bytes)).seats
    unfolding certificate_in certificate_of entry_seats read_full
    set_in = set ∙ rw (read_is_full n bytes full).1

    sound : Sound n bytes mask
    sound = record { full = full; known = known; ordered = ordered; set = set_in }

    pub full-readable : Readable n (in_full mask) bytes
    full-readable = record { inside = sound_lt n bytes mask sound; stands = sound }

    pub full-certificate : (value : List ℕ) → value ≡ read_value value_at bytes → certificate_from n (in_full mask) value bytes ≡ certificate_in (read n bytes)
    unfolding signature_at
    full-certificate value v = rw (v ∙ sym full-value, set_in)

    pub full_size : size mask ≡ k n
    full_size = sym (length-seats n mask (sound_lt n bytes mask sound)) ∙ sound-many n bytes mask sound
