-- Laws of walks over entries: a byte of each, at its place; and the walk that reads a form's seats.
-- Assumes nothing.
use Rattle.std.specs.Prelude.{◌≡◌, Bool, false, ◌&&◌, ◌⊎◌, ltb}
use Rattle.std.proofs.Math.Path.{refl, ap}
use Rattle.std.proofs.Common.{sym, ◌∙◌, inl, inr, eq-or-lt_of_le, arith, ltb-true, lt-ltb, le-ltb}
use Rattle.std.proofs.Math.Bool.{true, and-true, and-false}
use Rattle.std.proofs.Math.Logic.{⊎_elim}
use mathlib.Core.List.{List, [], ◌∷◌, append_assoc, map-append}
use Prim.Native.Nat.{ℕ, zero, suc, ◌+◌, ◌-◌, ◌≤◌, ◌<◌}
use Rattle.std.proofs.Math.Numerals.{add-one}
use Rattle.quorum.specs.Quorum.{with}
use Rattle.protocol.specs.Layout.{entry_seat_at}
use Rattle.protocol.specs.Entries.{each_below, Form, byte_at, place_of, read_entry, read_entries, form_seats}
use Rattle.protocol.specs.EntriesLaws.{each_at, Faithful}
use Rattle.protocol.specs.Certificate.{set_of}
use Rattle.protocol.specs.Refusals.{every, rising}
use Rattle.protocol.specs.ConditionsLaws.{every_append, rising_snoc}
use Rattle.protocol.specs.CertificateLaws.{set_snoc}
use Rattle.wire.specs.Reading.{bytes_at}

module _ (place : ℕ → ℕ) (bytes : List ℕ) where
  -- ---- a test of every byte

  pub every_byte : (test : ℕ → Bool) (t : ℕ) → every test (bytes_at place t bytes) ≡ each_below (λ (i : ℕ). test (byte_at bytes (place i))) t
  unfolding bytes_at every each_below
  every_byte test zero = refl
  every_byte test (suc t) = every_append test (bytes_at place t bytes) (byte_at bytes (place t) ∷ []) ∙ rw (every_byte test t, and-true)

  -- a byte of those that are all below n
  pub below_at : (n count t : ℕ) → t < count → every (λ (x : ℕ). ltb x n) (bytes_at place count bytes) ≡ true → byte_at bytes (place t) < n
  below_at n count t l h = ltb-true _ n (each_at _ t count l (sym (every_byte (λ (x : ℕ). ltb x n) count) ∙ h))

  -- ---- rising bytes

  rising_step : (t : ℕ) → rising (bytes_at place (suc (suc t)) bytes)
      ≡ (rising (bytes_at place (suc t) bytes) && ltb (byte_at bytes (place t)) (byte_at bytes (place (suc t))))
  unfolding bytes_at
  rising_step t =
      let a = byte_at bytes (place t) in
      let b = byte_at bytes (place (suc t)) in
      ap rising (append_assoc (bytes_at place t bytes) (a ∷ []) (b ∷ [])) ∙ rising_snoc (bytes_at place t bytes) a b

  rises_not : (count u : ℕ) → suc u < count → byte_at bytes (place (suc u)) ≤ byte_at bytes (place u) → rising (bytes_at place count bytes) ≡ false
  rises_not zero u l e = absurd (omega arith)
  rises_not (suc zero) u l e = absurd (omega arith)
  rises_not (suc (suc count)) u l e =
      ⊎_elim
      (λ (p : u ≡ count). rw (← p, rising_step u, le-ltb _ _ e, and-false))
      (λ (b : u < count). rw (rising_step count, rises_not (suc count) u (omega arith) e))
      (eq-or-lt_of_le (omega arith))

-- state of a walk at index t, from 1 on
pub record Rises (place : ℕ → ℕ) (bytes : List ℕ) (count t : ℕ) : Type 0 where
  pub some : 1 ≤ t
  pub within : (t ≤ count) ⊎ (t ≡ 1)
  pub rises : rising (bytes_at place t bytes) ≡ true

pub rises_first : {place : ℕ → ℕ} {bytes : List ℕ} {count : ℕ} → Rises place bytes count 1
unfolding bytes_at rising
rises_first = record { some = omega arith; within = inr refl; rises = refl }

module _ {place : ℕ → ℕ} {bytes : List ℕ} {count t : ℕ} (h : Rises place bytes count t) where
  before : t ≡ suc (t - 1)
  before = omega (arith, h.some)

  -- the byte of index t is above the one before it, or isn't
  pub rises_next : t < count → byte_at bytes (place (t - 1)) < byte_at bytes (place t) → Rises place bytes count (t + 1)
  rises_next l e =
      let e' : byte_at bytes (place (t - 1)) < byte_at bytes (place (suc (t - 1))) = rw (← before) e in
      let so_far : rising (bytes_at place (suc (t - 1)) bytes) ≡ true = rw (← before) h.rises in
      let more : rising (bytes_at place (suc (suc (t - 1))) bytes) ≡ true = rw (rising_step place bytes (t - 1), so_far, lt-ltb _ _ e') in
      record { some = omega arith; within = inl (omega arith); rises = rw (add-one, before) more }

  pub rises_fails : t < count → byte_at bytes (place t) ≤ byte_at bytes (place (t - 1)) → rising (bytes_at place count bytes) ≡ false
  rises_fails l e = rises_not place bytes count (t - 1) (omega (arith, before)) (rw (← before) e)

  pub rises_all : count ≤ t → rising (bytes_at place count bytes) ≡ true
  unfolding bytes_at rising
  rises_all g = at_end count refl g
    where
      at_end : (n : ℕ) → count ≡ n → n ≤ t → rising (bytes_at place n bytes) ≡ true
      at_end zero q l = refl
      at_end (suc n) q l =
          let e : t ≡ suc n = ⊎_elim (λ a. omega arith) (λ b. omega (arith, h.some)) h.within in
          rw e at h.rises

-- ---- the set of seats

-- state of a walk at index t
pub record Gathered (place : ℕ → ℕ) (bytes : List ℕ) (count mask t : ℕ) : Type 0 where
  pub within : t ≤ count
  pub set : mask ≡ set_of (bytes_at place t bytes)

pub gathered_none : {place : ℕ → ℕ} {bytes : List ℕ} {count : ℕ} → Gathered place bytes count 0 0
unfolding bytes_at set_of
gathered_none = record { within = omega arith; set = refl }

module _ {place : ℕ → ℕ} {bytes : List ℕ} {count mask t : ℕ} (h : Gathered place bytes count mask t) where
  pub gathered_next : {x r : ℕ} → t < count → x ≡ byte_at bytes (place t) → r ≡ with x mask → Gathered place bytes count r (t + 1)
  unfolding bytes_at
  gathered_next l e q =
      record { within = omega arith; set = q ∙ rw (e, h.set, add-one, set_snoc (bytes_at place t bytes) (byte_at bytes (place t))) }

  pub gathered_all : count ≤ t → mask ≡ set_of (bytes_at place count bytes)
  gathered_all l = let q : t ≡ count = omega arith in h.set ∙ rw q

-- ---- the seats of a form

module _ {A : Type 0} (form : Form A) (bytes : List ℕ) where
  pub seats-walked : Faithful form → (t : ℕ) → bytes_at (λ (i : ℕ). place_of form i + entry_seat_at) t bytes ≡ form_seats form (read_entries form t bytes)
  unfolding bytes_at form_seats read_entries read_entry
  seats-walked faithful zero = refl
  seats-walked faithful (suc t) =
      let last = read_entry form (place_of form t) bytes in
      rw (seats-walked faithful t, map-append form.seat (read_entries form t bytes) (last ∷ []), (faithful _ _).0)
