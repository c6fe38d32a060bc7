-- A rising list of seats and its set: each gives the other, and the place of a seat in the list; and so of entries whose seats rise.
-- Assumes nothing.
use Rattle.std.specs.Prelude.{◌≡◌, refl, true, cond, ◌⊎◌, ℕ, zero, suc, ◌^◌, ◌≤◌, ◌<◌, ltb, eqb, get_or}
use Rattle.std.proofs.Common.{sym, ◌∙◌, inl, inr, ⊎_elim, eq-or-lt_of_le, le_of_suc-le-suc, add-one, arith, length-append, ltb-true}
use Rattle.std.proofs.Math.Path.{ap}
use Rattle.std.proofs.Math.Bool.{and-eq-true_iff}
use mathlib.Core.List.Memᴰ
use mathlib.Core.List.{List, [], ◌∷◌, ◌++◌, append_assoc, Memᴰ}
use Rattle.std.proofs.Math.ListN.{length, length-map}
use Rattle.quorum.specs.Quorum.{bit, In, size, shared, all, seats}
use Rattle.quorum.specs.QuorumLaws.{bit_cases, bit-shared, bit_lt_two, bit_all_below, seats_in_lem, seats-out, length-seats, all_lt, bit-outside, lt_of_none_outside, mem-seats, seat_at_lem}
use Rattle.protocol.specs.Entries.{Form, form_seats}
use Rattle.protocol.specs.Certificate.{set_of}
use Rattle.protocol.specs.Refusals.{every, rising}
use Rattle.protocol.specs.ConditionsLaws.{every_each}
use Rattle.protocol.specs.CertificateLaws.{in_set, found_after}

-- ---- rising lists

-- each seat is below those after it
abbrev pub Sorted : List ℕ → Type 0
Sorted [] = Unit {0}
Sorted (x ∷ l) = ((y : ℕ) → Memᴰ y l → x < y) × Sorted l

sorted_rising : (l : List ℕ) → rising l ≡ true → Sorted l
unfolding rising
sorted_rising [] e = tt
sorted_rising (x ∷ []) e = (λ y d. absurd (Memᴰ.not-nil d), tt)
sorted_rising (x ∷ y ∷ l) e =
    let both = (and-eq-true_iff (ltb x y) (rising (y ∷ l))).0 e in
    let rest = sorted_rising (y ∷ l) both.1 in
    let h = ltb-true x y both.0 in
    (λ z d. ⊎_elim (λ (q : z ≡ y). omega arith) (λ t. omega (arith, rest.0 z t)) (Memᴰ.cases_cons d), rest)

sorted_snoc : (l : List ℕ) (x : ℕ) → Sorted l → ((y : ℕ) → Memᴰ y l → y < x) → Sorted (l ++ x ∷ [])
sorted_snoc [] x s h = (λ y d. absurd (Memᴰ.not-nil d), tt)
sorted_snoc (z ∷ l) x s h = (
  λ y d. ⊎_elim (s.0 y) (λ e. let q : y ≡ x = Memᴰ.eq_of_singleton e in omega (arith, h z (Memᴰ.head refl))) (Memᴰ.append_cases l d),
  sorted_snoc l x s.1 (λ y d. h y (Memᴰ.tail d)),
)

-- the seats below n + 1 are those below n, and n where it is in the set
by_seat : (P : List ℕ → Type 0) (n m : ℕ) → (bit n m ≡ 0 → P (seats n m)) → (In n m → P (seats n m ++ n ∷ [])) → P (seats (suc n) m)
by_seat P n m without also =
    rw (← add-one n) (⊎_elim (λ z. rw (seats-out n m z) (without z)) (λ i. rw (seats_in_lem n m i) (also i)) (bit_cases n m))

sorted_seats : (n m : ℕ) → Sorted (seats n m)
unfolding seats
sorted_seats zero m = tt
sorted_seats (suc n) m =
    by_seat Sorted n m (λ z. sorted_seats n m) (λ i. sorted_snoc (seats n m) n (sorted_seats n m) (λ y d. ((mem-seats n y m).0 d).0))

-- two rising lists of the same seats are equal
same_sorted : (xs ys : List ℕ) → Sorted xs → Sorted ys → ((s : ℕ) → Memᴰ s xs → Memᴰ s ys) → ((s : ℕ) → Memᴰ s ys → Memᴰ s xs) → xs ≡ ys
same_sorted [] [] a b f g = refl
same_sorted [] (y ∷ ys) a b f g = absurd (Memᴰ.not-nil (g y (Memᴰ.head refl)))
same_sorted (x ∷ xs) [] a b f g = absurd (Memᴰ.not-nil (f x (Memᴰ.head refl)))
same_sorted (x ∷ xs) (y ∷ ys) a b f g =
    let first : x ≡ y =
    ⊎_elim (λ (e : x ≡ y). e)
    (λ t. ⊎_elim (λ (e : y ≡ x). sym e) (λ u. absurd (omega (arith, b.0 x t, a.0 y u))) (Memᴰ.cases_cons (g y (Memᴰ.head refl))))
    (Memᴰ.cases_cons (f x (Memᴰ.head refl))) in
    let there : (s : ℕ) → Memᴰ s xs → Memᴰ s ys =
    λ s d. ⊎_elim (λ (e : s ≡ y). absurd (omega (arith, a.0 s d))) (λ t. t) (Memᴰ.cases_cons (f s (Memᴰ.tail d))) in
    let back : (s : ℕ) → Memᴰ s ys → Memᴰ s xs =
    λ s d. ⊎_elim (λ (e : s ≡ x). absurd (omega (arith, b.0 s d))) (λ t. t) (Memᴰ.cases_cons (g s (Memᴰ.tail d))) in
    let rest = same_sorted xs ys a.1 b.1 there back in
    cc

-- a rising list of seats below n is that of its set
pub seats-set : (n : ℕ) (l : List ℕ) → rising l ≡ true → every (λ (s : ℕ). ltb s n) l ≡ true → seats n (set_of l) ≡ l
seats-set n l r e =
    same_sorted (seats n (set_of l)) l (sorted_seats n (set_of l)) (sorted_rising l r)
    (λ s d. (in_set s l).0 ((mem-seats n s (set_of l)).0 d).1)
    (λ s d. (mem-seats n s (set_of l)).1 (ltb-true s n (every_each (λ (t : ℕ). ltb t n) l e s d), (in_set s l).1 d))

pub set_lt : (n : ℕ) (l : List ℕ) → every (λ (s : ℕ). ltb s n) l ≡ true → set_of l < 2 ^ n
set_lt n l e = lt_of_none_outside n (set_of l) (λ s h. go s h (bit_cases s (set_of l)))
  where
    go : (s : ℕ) → n ≤ s → (bit s (set_of l) ≡ 0) ⊎ In s (set_of l) → bit s (set_of l) ≡ 0
    go s h (inl z) = z
    go s h (inr i) = absurd (omega (arith, ltb-true s n (every_each (λ (t : ℕ). ltb t n) l e s ((in_set s l).0 i))))

-- ---- the place of a seat in the list

-- the seats before a seat are those below it
pub seats-split : (n s m : ℕ) → s < n → In s m → (rest : List ℕ) × (seats n m ≡ seats s m ++ s ∷ rest)
seats-split zero s m h i = absurd (omega arith)
seats-split (suc n) s m h i =
    let P : List ℕ → Type 0 = λ l. (rest : List ℕ) × (l ≡ seats s m ++ s ∷ rest) in
    ⊎_elim
    (λ (e : s ≡ n). by_seat P n m (λ z. absurd (omega (arith, ap (λ (x : ℕ). bit x m) e))) (λ j. ([], rw e)))
    (λ (l : s < n).
    let f = seats-split n s m l i in
    by_seat P n m (λ z. f)
    (λ j. (f.0 ++ n ∷ [], ap (λ (x : List ℕ). x ++ n ∷ []) f.1 ∙ append_assoc (seats s m) (s ∷ f.0) (n ∷ []))))
    (eq-or-lt_of_le (le_of_suc-le-suc h))

-- the seats below s are those that the set shares with all s seats
seats_agree : (n a b : ℕ) → ((t : ℕ) → t < n → bit t a ≡ bit t b) → seats n a ≡ seats n b
unfolding seats
seats_agree zero a b h = refl
seats_agree (suc n) a b h = rw (seats_agree n a b (λ t l. h t (omega arith)), h n (omega arith))

pub count-below : (s m : ℕ) → length (seats s m) ≡ size (shared m (all s))
count-below s m =
    let below : shared m (all s) < 2 ^ s =
    lt_of_none_outside s (shared m (all s)) (λ t h. omega (arith, bit-shared t m (all s), bit-outside t s (all s) (all_lt s) h)) in
    ap length (seats_agree s m (shared m (all s)) (λ t h. omega (arith, bit-shared t m (all s), bit_all_below t s h, bit_lt_two t m)))
    ∙ length-seats s (shared m (all s)) below

-- ---- entries whose seats rise and are below n, with `mask` the set of their seats

module _ {A : Type 0} (form : Form A) (n : ℕ) (es : List A) (ordered : rising (form_seats form es) ≡ true) (known : every (λ (s : ℕ). ltb s n) (form_seats form es) ≡ true) (mask : ℕ) (set : mask ≡ set_of (form_seats form es)) where
  pub entries_lt : mask < 2 ^ n
  entries_lt = rw set (set_lt n (form_seats form es) known)

  pub entries-seats : seats n mask ≡ form_seats form es
  entries-seats = rw set (seats-set n (form_seats form es) ordered known)

  pub entries-many : length (seats n mask) ≡ length es
  unfolding form_seats
  entries-many = ap length entries-seats ∙ length-map es form.seat

  -- the entry of a seat comes after those of the seats below it
  module _ (s : ℕ) (l : s < n) (i : In s mask) where
    pub entry-index : size (shared mask (all s)) < length es
    entry-index =
        let f = seats-split n s mask l i in
        omega (arith, entries-many, count-below s mask, ap length f.1, length-append (seats s mask) (s ∷ f.0))

    pub entry_found : {B : Type 0} (content : A → B) (look : List A → ℕ → B)
        → ((x : A) (xs : List A) (t : ℕ) → look (x ∷ xs) t ≡ cond (eqb (form.seat x) t) (content x) (look xs t))
        → (d : A) → look es s ≡ content (get_or es (size (shared mask (all s))) d)
    unfolding form_seats
    entry_found content look next d =
        let f = seats-split n s mask l i in
        rw (← count-below s mask)
        (found_after form.seat content look next es (seats s mask) s f.0 d (sym entries-seats ∙ f.1) (λ j b. (seat_at_lem s mask j b).0))
