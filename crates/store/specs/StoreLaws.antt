-- Laws of slots, and of a certificate held.
-- Assumes nothing.
use Rattle.std.specs.Prelude.{◌≡◌, refl, List, ℕ, ◌+◌, ◌≤◌, ◌<◌}
use Rattle.std.proofs.Math.Path.{sym}
use Rattle.std.proofs.Common.{◌∙◌, ⊎_elim, arith, drop-drop}
use Rattle.std.proofs.Math.ListN.{length}
use borrow.Rule.Slice.PartMut.{put_mid}
use Rattle.octets.specs.Octets.{patch}
use Rattle.octets.specs.OctetsLaws.{length_part, length-patch}
use Rattle.octets.specs.WriteLaws.{part_before, part_after}
use Rattle.quorum.specs.Quorum.{bit, In, seats}
use Rattle.quorum.specs.QuorumLaws.{seats_in_lem, seats-out}
use Rattle.protocol.specs.Layout.{signature_length, banks, slot_length, store_length, slot_at, first_bank}
use Rattle.protocol.specs.Message.{read_signature}
use Rattle.protocol.specs.Certificate.{slot, fill, fill_each}
use Rattle.protocol.specs.LayoutLaws.{slot-fits, slots_apart, collected_bank_lem, first_bank_lem, kept_bank_lem}
use Rattle.protocol.specs.CertificateLaws.{fill_snoc}
use Rattle.layout.specs.Places.{bank_of}
use Rattle.layout.specs.declared.Bank.{Bank}
use Rattle.layout.specs.declared.Bank.TheVariants as bank

pub length-signature : (at : ℕ) (bytes : List ℕ) → at + signature_length ≤ length bytes → length (read_signature at bytes) ≡ signature_length
unfolding read_signature
length-signature at bytes h = length_part at signature_length bytes h

-- a part of a buffer, lent and written whole, is a patch of the buffer
pub part-patched : (at k : ℕ) (ws xs ys : List ℕ) → k ≡ length ws → ys ≡ ws → put_mid at k xs ys ≡ patch at ws xs
unfolding patch
part-patched at k ws xs ys w e = rw (e, drop-drop k at xs, w)

-- ---- slots

-- the banks of the code are in the list, and their slots hold signatures
pub bank_listed : (b : Bank) → bank_of b < length banks
unfolding bank_of
bank_listed bank.Collected = collected_bank_lem.0
bank_listed bank.First = first_bank_lem.0
bank_listed bank.Kept = kept_bank_lem.0

pub slot-signature : (b : Bank) → slot_length (bank_of b) ≡ signature_length
unfolding bank_of
slot-signature bank.Collected = collected_bank_lem.1
slot-signature bank.First = first_bank_lem.1
slot-signature bank.Kept = kept_bank_lem.1

-- the signature read at a slot's place
module _ (n : ℕ) (b : Bank) (seat : ℕ) (l : seat < n) (store : List ℕ) (stored : store_length n ≤ length store) (at : ℕ) (e : at ≡ slot_at n (bank_of b) seat) where
  pub slot-inside : at + signature_length ≤ length store
  slot-inside = rw e (omega (arith, slot-fits n (bank_of b) seat (bank_listed b) l, slot-signature b))

  pub slot_read : (g : List ℕ) → g ≡ read_signature at store → (g ≡ slot n (bank_of b) store seat) × (length g ≡ signature_length)
  unfolding slot read_signature
  slot_read g q = (q ∙ rw (e, slot-signature b), rw q (length-signature at store slot-inside))

-- a slot filled leaves those of later seats
fill-leaves : (n a b s t : ℕ) (signature store : List ℕ) → a < length banks → b < length banks → s < n → t < n → s < t
    → store_length n ≤ length store → length signature ≡ slot_length a → slot n b (fill n a s signature store) t ≡ slot n b store t
unfolding fill slot
fill-leaves n a b s t signature store x y h k l r g =
    ⊎_elim
    (λ p. part_after (slot_at n b t) (slot_length b) (slot_at n a s) signature store (omega arith) (omega (arith, slot-fits n a s x h)))
    (λ p. part_before (slot_at n b t) (slot_length b) (slot_at n a s) signature store p (omega (arith, slot-fits n a s x h)))
    (slots_apart n a s b t x y h k (λ p q. omega arith))

-- ---- a certificate held

-- state of a loop over the seats of the set m at seat s: the signatures f of the seats passed are in the first certificate's bank,
-- and the slots of the others are as they were
pub record Holding (n m : ℕ) (f : ℕ → List ℕ) (before : List ℕ) (s : ℕ) (store : List ℕ) : Type 0 where
  pub below : s ≤ n
  pub long : length store ≡ length before
  pub filled : store ≡ fill_each n first_bank f (seats s m) before
  pub others : (b : ℕ) → b < length banks → (t : ℕ) → s ≤ t → t < n → slot n b store t ≡ slot n b before t

pub holding_none : (n m : ℕ) (f : ℕ → List ℕ) (before : List ℕ) → Holding n m f before 0 before
unfolding fill_each seats
holding_none n m f before = record { below = omega arith; long = refl; filled = refl; others = λ b x t l h. refl }

module _ (n m : ℕ) (f : ℕ → List ℕ) (before : List ℕ) (s : ℕ) (store : List ℕ) (h : Holding n m f before s store) (l : s < n) where
  pub holding_skip : bit s m ≡ 0 → Holding n m f before (s + 1) store
  holding_skip z =
      record { below = omega arith; long = h.long; filled = rw (seats-out s m z) h.filled; others = λ b x t p q. h.others b x t (omega arith) q }

  pub holding-fill : (g after : List ℕ) → In s m → store_length n ≤ length before → g ≡ f s → length g ≡ signature_length
      → after ≡ fill n first_bank s g store → Holding n m f before (s + 1) after
  unfolding fill bank_of
  holding-fill g after i r q size e =
      let first = bank_listed bank.First in
      let room = slot-fits n first_bank s first l in
      let long : length store ≡ length before = h.long in
      let width : length g ≡ slot_length first_bank = size ∙ sym (slot-signature bank.First) in
      record {
        below = omega arith;
        long = rw e (length-patch (slot_at n first_bank s) g store (omega arith) ∙ long);
        filled = e ∙ rw (q, seats_in_lem s m i, fill_snoc n first_bank f (seats s m) s before, ← h.filled);
        others = λ b x t p k. rw e (fill-leaves n first_bank b s t g store first x l k (omega arith) (omega arith) width) ∙ h.others b x t (omega arith) k;
      }
