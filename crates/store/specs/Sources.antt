-- Sources of a certificate's signatures: the entries of a FULL, or a bank of the store.
-- Assumes nothing.
use Rattle.std.specs.Prelude.{◌≡◌, true, false, List, ℕ, ◌+◌, ◌^◌, ◌≤◌, ◌<◌, length}
use Rattle.quorum.specs.Quorum.{size, shared, all}
use Rattle.protocol.specs.Layout.{entry_held_at, full_entry_at, store_length}
use Rattle.protocol.specs.Message.{read}
use Rattle.protocol.specs.Certificate.{Certificate, slot, certificate_in}
use Rattle.protocol.specs.Refusals.{is_full, stranger, disorder}
use Rattle.layout.specs.Places.{bank_of}
use Rattle.store.specs.declared.sources.Place.{Place}
use Rattle.store.specs.declared.sources.Place.TheVariants as place
use Rattle.store.specs.declared.sources.Source.{Source}

-- the bytes with the signatures: the message, or the store
unfoldable pub bytes_of : Place → List ℕ → List ℕ → List ℕ
bytes_of place.Entries store m = m
bytes_of (place.Slots bank) store m = store

-- the bytes of a FULL, refused neither for a seat nor for its order, with `seats` the set of its entries' seats
pub record Sound (n : ℕ) (bytes : List ℕ) (seats : ℕ) : Type 0 where
  pub full : is_full (read n bytes) ≡ true
  pub known : stranger n (read n bytes) ≡ false
  pub ordered : disorder (read n bytes) ≡ false
  pub set : seats ≡ (certificate_in (read n bytes)).seats

-- place of a seat's signature in such a FULL: after the entries of the seats below it
unfoldable pub entry_place : ℕ → ℕ → ℕ
entry_place seats seat = full_entry_at (size (shared seats (all seat))) + entry_held_at

-- condition on the bytes for reading signatures
abbrev pub Stands : ℕ → Place → ℕ → List ℕ → Type 0
Stands n place.Entries seats bytes = Sound n bytes seats
Stands n (place.Slots bank) seats bytes = store_length n ≤ length bytes

pub record Readable (n : ℕ) (source : Source) (bytes : List ℕ) : Type 0 where
  pub inside : source.seats < 2 ^ n
  pub stands : Stands n source.place source.seats bytes

-- the signature of a seat, and the certificate of a value
unfoldable pub signature_at : ℕ → Place → List ℕ → ℕ → List ℕ
signature_at n place.Entries bytes = (certificate_in (read n bytes)).signature
signature_at n (place.Slots bank) bytes = slot n (bank_of bank) bytes

abbrev pub signature_from : ℕ → Source → List ℕ → ℕ → List ℕ
signature_from n source bytes = signature_at n source.place bytes

abbrev pub certificate_from : ℕ → Source → List ℕ → List ℕ → Certificate
certificate_from n source value bytes = record { value = value; seats = source.seats; signature = signature_from n source bytes }
