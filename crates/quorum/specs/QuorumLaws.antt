-- Laws of masks and thresholds, for masks of any width. The last section has the law on two quorums.
-- Assumes nothing.
use Rattle.std.specs.Prelude.{◌≡◌, refl, true, false, ◌⊎◌, ◌≢◌, ◌↔◌, ℕ, zero, suc, ◌+◌, ◌*◌, ◌/◌, ◌%◌, ◌-◌, ◌^◌, ◌<◌, ◌≤◌, min, max, length, get_or}
use Rattle.std.proofs.Common.{sym, ap, subst, ◌∙◌, inl, inr, ⊎_elim, div-one, pow-suc, lt_of_lt_of_le, lt_of_not-le, le_of_suc-le-suc, mod-lt, mod-eq_of_lt, eq-zero-or-pos, eq-or-lt_of_le, one-add, add-one, arith, leb-false, eqb-true, eq-eqb, ne_eqb, length-append, pow_mono, pow_pos, shr-shr}
use mathlib.Core.List.{List, [], ◌∷◌, ◌++◌, append-nil, Memᴰ}
use Rattle.std.proofs.Math.Nat.{div-eq_of_lt, mod-one}
use Rattle.std.proofs.Math.Numerals.{unary_clauses}
use Rattle.std.proofs.Math.Decide.{ℕ_discrete, dec_lt}
use Rattle.std.proofs.lemmas.Bool.{lt-leb, eqb-false}
use Rattle.std.proofs.Math.Arith.{bin_ind}
use Rattle.std.specs.Int.Bits.{differ, and_step, or_step, xor_step, and_lt}
use Rattle.std.proofs.lemmas.Nat.{or_lt, xor_lt, ones_cat, ones-le, mod-pow-add}
use Rattle.std.specs.Int.Count.{ones, ones_step}
use Rattle.std.proofs.Math.ListN.{get_or-append}
use Rattle.std.proofs.lemmas.List.{get_or_at}
use Rattle.std.proofs.Math.Pow.{pow-lt}
use Rattle.quorum.specs.Quorum.{t0, k, bit, In, has, size, one, union, shared, less, with, all, outside, seat_if, seats}

-- ---- seat 0, and the other seats moved down by one

union-low : (a b : ℕ) → union a b % 2 ≡ max (a % 2) (b % 2)
unfolding union
union-low a b = omega (arith, or_step a b)

union-half : (a b : ℕ) → union a b / 2 ≡ union (a / 2) (b / 2)
unfolding union
union-half a b = omega (arith, or_step a b)

shared-low : (a b : ℕ) → shared a b % 2 ≡ min (a % 2) (b % 2)
unfolding shared
shared-low a b = omega (arith, and_step a b)

shared-half : (a b : ℕ) → shared a b / 2 ≡ shared (a / 2) (b / 2)
unfolding shared
shared-half a b = omega (arith, and_step a b)

differ-shared : (x y : ℕ) → differ x (min x y) ≡ x - y
differ-shared zero y = omega arith
differ-shared (suc x) zero = simp unary_clauses refl
differ-shared (suc x) (suc y) = simp unary_clauses (differ-shared x y)

less-step : (a b : ℕ) → less a b ≡ less (a / 2) (b / 2) * 2 + (a % 2 - b % 2)
unfolding less
less-step a b = rw (← differ-shared (a % 2) (b % 2), ← shared-low a b, ← shared-half a b) (xor_step a (shared a b))

less-low : (a b : ℕ) → less a b % 2 ≡ a % 2 - b % 2
less-low a b = omega (arith, less-step a b)

less-half : (a b : ℕ) → less a b / 2 ≡ less (a / 2) (b / 2)
less-half a b = omega (arith, less-step a b)

-- ---- the bit of a seat

pub bit_lt_two : (s m : ℕ) → bit s m < 2
unfolding bit
bit_lt_two zero m = omega arith
bit_lt_two (suc s) m = bit_lt_two s (m / 2)

pub bit_cases : (s m : ℕ) → (bit s m ≡ 0) ⊎ In s m
bit_cases s m = go (bit s m) (bit_lt_two s m)
  where
    go : (b : ℕ) → b < 2 → (b ≡ 0) ⊎ (b ≡ 1)
    go zero h = inl refl
    go (suc b) h = inr (omega arith)

pub has_true : (s m : ℕ) → (has s m ≡ true) ↔ In s m
unfolding has
has_true s m = (eqb-true (bit s m) 1, eq-eqb (bit s m) 1)

pub has_false : (s m : ℕ) → (has s m ≡ false) ↔ (bit s m ≡ 0)
unfolding has
has_false s m = (λ e. ⊎_elim (λ z. z) (λ h. absurd (eqb-false (bit s m) 1 e h)) (bit_cases s m), λ z. ne_eqb (bit s m) 1 (λ h. omega arith))

-- the lowest bit of the mask moved down by s is that of seat s
pub shift_is_bit : (s m : ℕ) → m / 2 ^ s % 2 ≡ bit s m
unfolding bit
shift_is_bit zero m = ap (λ (x : ℕ). x % 2) (div-one m)
shift_is_bit (suc s) m = rw (← one-add s, ← shr-shr m 1 s) (shift_is_bit s (m / 2))

pub bit-union : (s a b : ℕ) → bit s (union a b) ≡ max (bit s a) (bit s b)
unfolding bit
bit-union zero a b = union-low a b
bit-union (suc s) a b = rw union-half (bit-union s (a / 2) (b / 2))

pub bit-shared : (s a b : ℕ) → bit s (shared a b) ≡ min (bit s a) (bit s b)
unfolding bit
bit-shared zero a b = shared-low a b
bit-shared (suc s) a b = rw shared-half (bit-shared s (a / 2) (b / 2))

pub bit-less : (s a b : ℕ) → bit s (less a b) ≡ bit s a - bit s b
unfolding bit
bit-less zero a b = less-low a b
bit-less (suc s) a b = rw less-half (bit-less s (a / 2) (b / 2))

pub in_union : (s a b : ℕ) → In s (union a b) ↔ (In s a ⊎ In s b)
in_union s a b = (
  λ h. ⊎_elim (λ z. inr (omega (arith, bit-union s a b))) inl (bit_cases s a),
  ⊎_elim (λ h. omega (arith, bit-union s a b, bit_lt_two s b)) (λ h. omega (arith, bit-union s a b, bit_lt_two s a)),
)

pub in_shared : (s a b : ℕ) → In s (shared a b) ↔ (In s a × In s b)
in_shared s a b = omega (arith, bit-shared s a b, bit_lt_two s a, bit_lt_two s b)

pub in_less : (s a b : ℕ) → In s (less a b) ↔ (In s a × (bit s b ≡ 0))
in_less s a b = omega (arith, bit-less s a b, bit_lt_two s a, bit_lt_two s b)

pub bit-empty : (s : ℕ) → bit s 0 ≡ 0
unfolding bit
bit-empty zero = refl
bit-empty (suc s) = bit-empty s

one_even : (s : ℕ) → one (suc s) % 2 ≡ 0
one_even s = omega (arith, pow-suc 2 s)

one-half : (s : ℕ) → one (suc s) / 2 ≡ one s
one-half s = omega (arith, pow-suc 2 s)

pub bit-one_same : (s : ℕ) → bit s (one s) ≡ 1
unfolding bit
bit-one_same zero = refl
bit-one_same (suc s) = rw one-half (bit-one_same s)

pub bit-one-other : (s t : ℕ) → s ≢ t → bit s (one t) ≡ 0
unfolding bit
bit-one-other zero zero h = absurd (h refl)
bit-one-other zero (suc t) h = one_even t
bit-one-other (suc s) zero h = bit-empty s
bit-one-other (suc s) (suc t) h = rw one-half (bit-one-other s t (omega arith))

pub bit_with_same : (s m : ℕ) → bit s (with s m) ≡ 1
unfolding with
bit_with_same s m = omega (arith, bit-union s m (one s), bit-one_same s, bit_lt_two s m)

pub bit_with_other : (s t m : ℕ) → s ≢ t → bit s (with t m) ≡ bit s m
unfolding with
bit_with_other s t m h = omega (arith, bit-union s m (one t), bit-one-other s t h)

all_odd : (n : ℕ) → all (suc n) % 2 ≡ 1
unfolding all
all_odd n = omega (arith, pow-suc 2 n, pow_pos n)

all_half : (n : ℕ) → all (suc n) / 2 ≡ all n
unfolding all
all_half n = omega (arith, pow-suc 2 n, pow_pos n)

pub bit_all_below : (s n : ℕ) → s < n → bit s (all n) ≡ 1
unfolding bit
bit_all_below s zero h = omega arith
bit_all_below zero (suc n) h = all_odd n
bit_all_below (suc s) (suc n) h = rw all_half (bit_all_below s n (omega arith))

-- a set of n seats names none at or above n
pub bit-outside : (s n m : ℕ) → m < 2 ^ n → n ≤ s → bit s m ≡ 0
bit-outside s n m h l = sym (shift_is_bit s m) ∙ ap (λ (x : ℕ). x % 2) (div-eq_of_lt (lt_of_lt_of_le h (pow_mono l)))

pub all_lt : (n : ℕ) → all n < 2 ^ n
unfolding all
all_lt n = omega (arith, pow_pos n)

bit_all_outside : (s n : ℕ) → n ≤ s → bit s (all n) ≡ 0
bit_all_outside s n = bit-outside s n (all n) (all_lt n)

pub in_all : (s n : ℕ) → In s (all n) ↔ (s < n)
in_all s n = (λ h. lt_of_not-le (λ l. omega (arith, bit_all_outside s n l)), bit_all_below s n)

-- ---- a mask by its seats

first_seat : (m : ℕ) → 0 < m → (s : ℕ) × In s m
unfolding bit
first_seat =
    bin_ind (λ (m : ℕ). 0 < m → (s : ℕ) × In s m) (λ h. absurd (omega arith)) step
  where
    step : (m : ℕ) → (0 < m / 2 → (s : ℕ) × In s (m / 2)) → 0 < m → (s : ℕ) × In s m
    step m half h = go (eq-zero-or-pos (m / 2))
      where
        go : (m / 2 ≡ 0) ⊎ (0 < m / 2) → (s : ℕ) × In s m
        go (inl e) = (zero, omega arith)
        go (inr l) = (suc (half l).0, (half l).1)

-- a mask from 2 ^ n up names a seat at or above n
seat-outside : (n m : ℕ) → 2 ^ n ≤ m → (s : ℕ) × (n ≤ s) × In s m
unfolding bit
seat-outside zero m h = let f = first_seat m h in (f.0, omega arith, f.1)
seat-outside (suc n) m h =
    let f = seat-outside n (m / 2) (omega (arith, pow-suc 2 n)) in
    (suc f.0, omega arith, f.2)

-- so a mask with no seat at or above n is below 2 ^ n, and one with no seat at all is 0
pub lt_of_none_outside : (n m : ℕ) → ((s : ℕ) → n ≤ s → bit s m ≡ 0) → m < 2 ^ n
lt_of_none_outside n m h = lt_of_not-le (λ l. let f = seat-outside n m l in omega (arith, h f.0 f.1))

zero_of_none_in : (m : ℕ) → ((s : ℕ) → bit s m ≡ 0) → m ≡ 0
zero_of_none_in m h = omega (arith, lt_of_none_outside 0 m (λ s l. h s))

-- two masks with the same seats are equal
pub same_seats : (a b : ℕ) → ((s : ℕ) → bit s a ≡ bit s b) → a ≡ b
unfolding bit
same_seats =
    bin_ind (λ (a : ℕ). (b : ℕ) → ((s : ℕ) → bit s a ≡ bit s b) → a ≡ b)
    (λ b h. sym (zero_of_none_in b (λ s. sym (h s) ∙ bit-empty s)))
    (λ a half b h. omega (arith, h 0, half (b / 2) (λ s. h (suc s))))

pub outside-false : (n m : ℕ) → (outside n m ≡ false) ↔ (m < 2 ^ n)
unfolding outside
outside-false n m = (leb-false (2 ^ n) m, lt-leb (2 ^ n) m)

-- ---- sizes

-- the seats of both sets are counted twice
size-union-shared : (a b : ℕ) → size (union a b) + size (shared a b) ≡ size a + size b
unfolding union shared
size-union-shared =
    bin_ind (λ (a : ℕ). (b : ℕ) → size (union a b) + size (shared a b) ≡ size a + size b) (λ b. omega arith) step
  where
    step : (a : ℕ) → ((b : ℕ) → size (union (a / 2) b) + size (shared (a / 2) b) ≡ size (a / 2) + size b) → (b : ℕ) → size (union a b) + size (shared a b) ≡ size a + size b
    step a half b =
        omega (arith, ones_step (union a b), ones_step (shared a b), ones_step a, ones_step b, union-low a b, shared-low a b, ap size (union-half a b), ap size (shared-half a b), half (b / 2))

-- a set has at least the seats that it shares
pub size-shared_le : (a b : ℕ) → size (shared a b) ≤ size a
unfolding shared
size-shared_le = bin_ind (λ (a : ℕ). (b : ℕ) → size (shared a b) ≤ size a) (λ b. omega arith) step
  where
    step : (a : ℕ) → ((b : ℕ) → size (shared (a / 2) b) ≤ size (a / 2)) → (b : ℕ) → size (shared a b) ≤ size a
    step a half b = omega (arith, ones_step (shared a b), ones_step a, shared-low a b, ap size (shared-half a b), half (b / 2))

-- a set within another is no larger
pub size-within : (a b : ℕ) → ((s : ℕ) → In s b → In s a) → size b ≤ size a
size-within a b h =
    subst (λ (x : ℕ). size x ≤ size a) (same_seats (shared a b) b (λ s. go s (bit_cases s b))) (size-shared_le a b)
  where
    go : (s : ℕ) → (bit s b ≡ 0) ⊎ In s b → bit s (shared a b) ≡ bit s b
    go s (inl e) = omega (arith, bit-shared s a b)
    go s (inr i) = omega (arith, bit-shared s a b, h s i)

pub size-empty : size 0 ≡ 0
unfolding ones
size-empty = refl

size-one : (s : ℕ) → size (one s) ≡ 1
unfolding ones
size-one zero = refl
size-one (suc s) = omega (arith, ones_step (one (suc s)), one_even s, ap size (one-half s), size-one s)

shared-one-new : (s m : ℕ) → bit s m ≡ 0 → shared m (one s) ≡ 0
shared-one-new s m h = zero_of_none_in (shared m (one s)) (λ t. go t (ℕ_discrete t s))
  where
    go : (t : ℕ) → Dec (t ≡ s) → bit t (shared m (one s)) ≡ 0
    go t (yes e) = rw e (omega (arith, bit-shared s m (one s)))
    go t (no d) = omega (arith, bit-shared t m (one s), bit-one-other t s d)

-- sets that share no seat are counted one after the other
pub size-union-apart : (a b : ℕ) → ((s : ℕ) → In s b → bit s a ≡ 0) → size (union a b) ≡ size a + size b
size-union-apart a b h = omega (arith, size-union-shared a b, ap size (zero_of_none_in (shared a b) (λ s. go s (bit_cases s b))), size-empty)
  where
    go : (s : ℕ) → (bit s b ≡ 0) ⊎ In s b → bit s (shared a b) ≡ 0
    go s (inl e) = omega (arith, bit-shared s a b)
    go s (inr i) = omega (arith, bit-shared s a b, h s i)

-- a new seat counts one
pub size_with_new : (s m : ℕ) → bit s m ≡ 0 → size (with s m) ≡ size m + 1
unfolding with
size_with_new s m h = omega (arith, size-union-shared m (one s), ap size (shared-one-new s m h), size-empty, size-one s)

-- ---- sets of n seats

pub size_le : (n m : ℕ) → m < 2 ^ n → size m ≤ n
size_le = ones-le

pub union_lt : (n a b : ℕ) → a < 2 ^ n → b < 2 ^ n → union a b < 2 ^ n
unfolding union
union_lt = or_lt

pub shared_lt : (n a b : ℕ) → a < 2 ^ n → b < 2 ^ n → shared a b < 2 ^ n
unfolding shared
shared_lt = and_lt

pub less_lt : (n a b : ℕ) → a < 2 ^ n → b < 2 ^ n → less a b < 2 ^ n
unfolding less
less_lt n a b h g = xor_lt n a (shared a b) h (shared_lt n a b h g)

pub with_lt : (n s m : ℕ) → s < n → m < 2 ^ n → with s m < 2 ^ n
unfolding with
with_lt n s m l h = union_lt n m (one s) h (pow-lt l)

-- ---- the list of seats

-- one pass of a loop over the seats
pub seats_in_lem : (s m : ℕ) → In s m → seats (s + 1) m ≡ seats s m ++ (s ∷ [])
unfolding seats
seats_in_lem s m h = rw (add-one s, h)

pub seats-out : (s m : ℕ) → bit s m ≡ 0 → seats (s + 1) m ≡ seats s m
unfolding seats
seats-out s m h = rw (add-one s, h) (append-nil (seats s m))

-- the seats below n + 1 are those below n, and n where it is in the set
seats-suc : (P : List ℕ → Type 0) (n m : ℕ) → (bit n m ≡ 0 → P (seats n m)) → (In n m → P (seats n m ++ (n ∷ []))) → P (seats (suc n) m)
seats-suc P n m without also =
    rw (← add-one n) (⊎_elim (λ z. rw (seats-out n m z) (without z)) (λ h. rw (seats_in_lem n m h) (also h)) (bit_cases n m))

length-seat_if : (b s : ℕ) → b < 2 → length (seat_if b s) ≡ size b
unfolding ones
length-seat_if zero s h = refl
length-seat_if (suc zero) s h = refl
length-seat_if (suc (suc b)) s h = absurd (omega arith)

length-seats_mod : (n m : ℕ) → length (seats n m) ≡ size (m % 2 ^ n)
unfolding seats
length-seats_mod zero m = sym (ap size (mod-one m) ∙ size-empty)
length-seats_mod (suc n) m =
    let top : m % 2 ^ suc n ≡ bit n m * 2 ^ n + m % 2 ^ n = rw (← one-add n, mod-pow-add m 1 n, shift_is_bit n m) in
    omega (
      arith,
      length-append (seats n m) (seat_if (bit n m) n),
      length-seat_if (bit n m) n (bit_lt_two n m),
      length-seats_mod n m,
      ap size top,
      ones_cat n (bit n m) (m % 2 ^ n) (mod-lt m (pow_pos n)),
    )

pub length-seats : (n m : ℕ) → m < 2 ^ n → length (seats n m) ≡ size m
length-seats n m h = length-seats_mod n m ∙ ap size (mod-eq_of_lt h)

-- the entries are the seats of the set below n
pub mem-seats : (n s m : ℕ) → Memᴰ s (seats n m) ↔ ((s < n) × In s m)
unfolding seats
mem-seats zero s m = (λ d. absurd (mathlib.Core.List.Memᴰ.not-nil d), λ h. absurd (omega arith))
mem-seats (suc n) s m =
    let below = mem-seats n s m in
    let old : Memᴰ s (seats n m) → (s < suc n) × In s m = λ d. let r = below.0 d in (omega arith, r.1) in
    seats-suc (λ (l : List ℕ). Memᴰ s l ↔ ((s < suc n) × In s m)) n m
    (λ z. (
      old,
      λ h. ⊎_elim (λ q. absurd (omega (arith, ap (λ (x : ℕ). bit x m) q))) (λ l. below.1 (l, h.1)) (eq-or-lt_of_le (le_of_suc-le-suc h.0)),
    ))
    (λ i. (
      λ d. ⊎_elim old (λ e. let q : s ≡ n = mathlib.Core.List.Memᴰ.eq_of_singleton e in (omega arith, rw q i)) (mathlib.Core.List.Memᴰ.append_cases (seats n m) d),
      λ h. ⊎_elim (λ q. mathlib.Core.List.Memᴰ.append_right (seats n m) (mathlib.Core.List.Memᴰ.head q)) (λ l. mathlib.Core.List.Memᴰ.append_left (n ∷ []) (below.1 (l, h.1))) (eq-or-lt_of_le (le_of_suc-le-suc h.0)),
    ))

mem_get_d : (l : List ℕ) (i : ℕ) → i < length l → Memᴰ (get_or l i 0) l
mem_get_d [] i h = absurd (omega arith)
mem_get_d (x ∷ l) zero h = mathlib.Core.List.Memᴰ.head refl
mem_get_d (x ∷ l) (suc i) h = mathlib.Core.List.Memᴰ.tail (mem_get_d l i (omega arith))

pub seat_at_lem : (n m i : ℕ) → i < length (seats n m) → (get_or (seats n m) i 0 < n) × In (get_or (seats n m) i 0) m
seat_at_lem n m i h = (mem-seats n (get_or (seats n m) i 0) m).0 (mem_get_d (seats n m) i h)

-- each entry is above those before it
abbrev pub Rises : List ℕ → Type 0
Rises l = (i j : ℕ) → i < j → j < length l → get_or l i 0 < get_or l j 0

rises_snoc : (l : List ℕ) (x : ℕ) → Rises l → ((i : ℕ) → i < length l → get_or l i 0 < x) → Rises (l ++ (x ∷ []))
rises_snoc l x r below i j h b = go (dec_lt j (length l))
  where
    go : Dec (j < length l) → get_or (l ++ (x ∷ [])) i 0 < get_or (l ++ (x ∷ [])) j 0
    go (yes m) = rw (get_or-append l (x ∷ []) 0 i (omega arith), get_or-append l (x ∷ []) 0 j m) (r i j h m)
    go (no m) =
        let last : length l ≡ j = omega (arith, length-append l (x ∷ [])) in
        rw (get_or-append l (x ∷ []) 0 i (omega arith), get_or_at l x [] 0 j last) (below i (omega arith))

pub seats-rise : (n m : ℕ) → Rises (seats n m)
unfolding seats
seats-rise zero m = λ i j h b. absurd (omega arith)
seats-rise (suc n) m =
    seats-suc Rises n m (λ z. seats-rise n m) (λ h. rises_snoc (seats n m) n (seats-rise n m) (λ i b. (seat_at_lem n m i b).0))

-- ---- two quorums

-- t0 is the largest number below n/3
pub t0-below-third : (n : ℕ) → 1 ≤ n → (3 * t0 n < n) × (n ≤ 3 * t0 n + 3)
unfolding t0
t0-below-third n h = omega arith

-- what two sets have each and what they share: at most n seats in all
two_sets : (n a b : ℕ) → a < 2 ^ n → b < 2 ^ n → size a + size b ≤ n + size (shared a b)
two_sets n a b la lb = omega (arith, size-union-shared a b, size_le n (union a b) (union_lt n a b la lb))

-- any two sets of k or more of the n seats share at least t0 + 1, whatever the width of the masks that hold them
quorums_share : (n a b : ℕ) → 1 ≤ n → a < 2 ^ n → b < 2 ^ n → k n ≤ size a → k n ≤ size b → t0 n + 1 ≤ size (shared a b)
unfolding k
quorums_share n a b h la lb qa qb = omega (arith, t0-below-third n h, two_sets n a b la lb)

-- the same for two sets of just k seats
pub k_of_n_share : (n a b : ℕ) → 1 ≤ n → a < 2 ^ n → b < 2 ^ n → size a ≡ k n → size b ≡ k n → t0 n + 1 ≤ size (shared a b)
unfolding k
k_of_n_share n a b h la lb ea eb = omega (arith, t0-below-third n h, two_sets n a b la lb)

-- the same in masks of any width w from n on, with no seat at or above n; and in masks of 32 bits
pub k_of_n_share_in : (w n a b : ℕ) → 1 ≤ n → n ≤ w → a < 2 ^ w → b < 2 ^ w → outside n a ≡ false → outside n b ≡ false
    → size a ≡ k n → size b ≡ k n → t0 n + 1 ≤ size (shared a b)
unfolding k
k_of_n_share_in w n a b h _ _ _ oa ob ea eb = omega (arith, t0-below-third n h, two_sets n a b ((outside-false n a).0 oa) ((outside-false n b).0 ob))

pub k_of_n_share_32 : (n a b : ℕ) → 1 ≤ n → n ≤ 32 → a < 2 ^ 32 → b < 2 ^ 32 → outside n a ≡ false → outside n b ≡ false
    → size a ≡ k n → size b ≡ k n → t0 n + 1 ≤ size (shared a b)
unfolding k
k_of_n_share_32 n a b h _ _ _ oa ob ea eb = omega (arith, t0-below-third n h, two_sets n a b ((outside-false n a).0 oa) ((outside-false n b).0 ob))

-- of k seats, k − t0 or more stand in any other k
pub k_of_n_share_most : (n a b : ℕ) → 1 ≤ n → a < 2 ^ n → b < 2 ^ n → size a ≡ k n → size b ≡ k n → k n ≤ size (shared a b) + t0 n
unfolding k
k_of_n_share_most n a b h la lb ea eb = omega (arith, t0-below-third n h, two_sets n a b la lb)
