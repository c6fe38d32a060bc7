-- Laws of the lists that a dispatcher holds: numbers found, different, not above a bound, and taken out.
-- Assumes nothing.
use Rattle.std.specs.Prelude.{ℕ, zero, suc, ◌≤◌, ◌<◌, ◌≡◌, refl, Bool, true, false, cond, not, ◌&&◌, ◌||◌, List, [], ◌∷◌, ◌++◌, ◌≢◌, ltb, eqb, length, get_or, set}
use Rattle.std.proofs.Common.{sym, ap, ◌∙◌, true≢false, eqb-true, eq-eqb, ne_eqb, ltb-true, ltb-false, le-ltb}
use Rattle.std.proofs.Math.Bool.{or_assoc, or-false}
use Rattle.std.proofs.lemmas.Bool.{false≢true, eqb-false, not-true}
use native.Mathlib.Omega.{arith}
use Rattle.std.proofs.Math.ListN.{length-append}
use Rattle.refusal.specs.Order.{is_in, distinct}
use Rattle.refusal.specs.RefusalLaws.{both_true, both_false}
use Rattle.dispatch.specs.Dispatcher.{index_of, some_above}
use Rattle.dispatch.specs.Turns.{unless, without, served_last}

-- ---- tests

-- both tests fail
pub neither : (a b : Bool) → a ≡ false → b ≡ false → (a || b) ≡ false
neither a b e f = rw (e, f)

-- both hold
pub both : (a b : Bool) → a ≡ true → b ≡ true → (a && b) ≡ true
both a b e f = rw (e, f)

-- by a test: what holds where it does, and where it doesn't
pub by : {P : Type 0} (b : Bool) → (b ≡ true → P) → (b ≡ false → P) → P
by true f g = f refl
by false f g = g refl

-- ---- a number more at the end

pub is_in_append : (x : ℕ) (xs ys : List ℕ) → is_in x (xs ++ ys) ≡ (is_in x xs || is_in x ys)
unfolding is_in
is_in_append x [] ys = refl
is_in_append x (y ∷ xs) ys = rw (is_in_append x xs ys) (sym (or_assoc (eqb y x) (is_in x xs) (is_in x ys)))

pub is_in_snoc : (x : ℕ) (xs : List ℕ) (y : ℕ) → is_in x (xs ++ (y ∷ [])) ≡ (is_in x xs || eqb y x)
unfolding is_in
is_in_snoc x xs y = is_in_append x xs (y ∷ []) ∙ rw (or-false (eqb y x))

pub some_above_snoc : (most : ℕ) (xs : List ℕ) (x : ℕ) → some_above most (xs ++ (x ∷ [])) ≡ (some_above most xs || ltb most x)
unfolding some_above
some_above_snoc most [] x = or-false (ltb most x)
some_above_snoc most (y ∷ xs) x = rw (some_above_snoc most xs x) (sym (or_assoc (ltb most y) (some_above most xs) (ltb most x)))

eqb-sym : (x y : ℕ) → eqb x y ≡ eqb y x
eqb-sym x y = by (eqb y x) (λ e. eq-eqb x y (sym (eqb-true y x e)) ∙ sym e) (λ e. ne_eqb x y (λ p. eqb-false y x e (sym p)) ∙ sym e)

swap : (a b c d : Bool) → ((not (a || d)) && (b && not c)) ≡ ((not a && b) && not (d || c))
swap true b c d = refl
swap false true c true = refl
swap false true c false = refl
swap false false c true = refl
swap false false c false = refl

pub distinct_snoc : (xs : List ℕ) (x : ℕ) → distinct (xs ++ (x ∷ [])) ≡ (distinct xs && not (is_in x xs))
unfolding distinct is_in
distinct_snoc [] x = refl
distinct_snoc (y ∷ xs) x = rw (is_in_snoc y xs x, distinct_snoc xs x, eqb-sym x y) (swap (is_in y xs) (distinct xs) (is_in x xs) (eqb y x))

pub without_snoc : (x : ℕ) (ys : List ℕ) (y : ℕ) → without x (ys ++ (y ∷ [])) ≡ without x ys ++ unless x y []
unfolding without unless
without_snoc x [] y = refl
without_snoc x (z ∷ ys) y = rw (without_snoc x ys y) (go (eqb z x))
  where
    go : (b : Bool) → cond b (without x ys ++ unless x y []) (z ∷ (without x ys ++ unless x y [])) ≡ cond b (without x ys) (z ∷ without x ys) ++ unless x y []
    go true = refl
    go false = refl

-- ---- a number taken out

pub is_in_without : (x : ℕ) (ys : List ℕ) → is_in x (without x ys) ≡ false
unfolding is_in without unless
is_in_without x [] = refl
is_in_without x (y ∷ ys) = by (eqb y x) (λ e. rw e (is_in_without x ys)) (λ e. rw (e, e) (is_in_without x ys))

-- nothing is in the list that wasn't
pub absent_without : (x y : ℕ) (ys : List ℕ) → is_in y ys ≡ false → is_in y (without x ys) ≡ false
unfolding is_in without unless
absent_without x y [] e = refl
absent_without x y (z ∷ ys) e =
    let two = both_false (eqb z y) (is_in y ys) e in
    by (eqb z x) (λ f. rw f (absent_without x y ys two.1)) (λ f. rw (f, two.0) (absent_without x y ys two.1))

pub distinct_without : (x : ℕ) (ys : List ℕ) → distinct ys ≡ true → distinct (without x ys) ≡ true
unfolding distinct without unless
distinct_without x [] e = refl
distinct_without x (y ∷ ys) e =
    let two = both_true (not (is_in y ys)) (distinct ys) e in
    by (eqb y x)
    (λ f. rw f (distinct_without x ys two.1))
    (λ f. rw (f, absent_without x y ys (not-true (is_in y ys) two.0)) (distinct_without x ys two.1))

pub some_above_without : (most x : ℕ) (ys : List ℕ) → some_above most ys ≡ false → some_above most (without x ys) ≡ false
unfolding some_above without unless
some_above_without most x [] e = refl
some_above_without most x (y ∷ ys) e =
    let two = both_false (ltb most y) (some_above most ys) e in
    by (eqb y x) (λ f. rw f (some_above_without most x ys two.1)) (λ f. rw (f, two.0) (some_above_without most x ys two.1))

pub without_absent : (x : ℕ) (ys : List ℕ) → is_in x ys ≡ false → without x ys ≡ ys
unfolding is_in without unless
without_absent x [] e = refl
without_absent x (y ∷ ys) e =
    let two = both_false (eqb y x) (is_in x ys) e in
    rw (two.0, without_absent x ys two.1)

-- ---- numbers of a list

pub not_above : (most : ℕ) (xs : List ℕ) → some_above most xs ≡ false → (i : ℕ) → get_or xs i 0 ≤ most
unfolding some_above
not_above most [] e i = omega arith
not_above most (x ∷ xs) e zero = ltb-false most x (both_false (ltb most x) (some_above most xs) e).0
not_above most (x ∷ xs) e (suc i) = not_above most xs (both_false (ltb most x) (some_above most xs) e).1 i

-- a number in the list isn't above
pub is_in_not_above : (most x : ℕ) (xs : List ℕ) → some_above most xs ≡ false → is_in x xs ≡ true → x ≤ most
unfolding some_above is_in
is_in_not_above most x [] e h = absurd (false≢true h)
is_in_not_above most x (y ∷ xs) e h =
    let two = both_false (ltb most y) (some_above most xs) e in
    by (eqb y x)
    (λ f. omega (arith, eqb-true y x f, ltb-false most y two.0))
    (λ f. is_in_not_above most x xs two.1 (rw f at h))

pub some_above-set : (most : ℕ) (xs : List ℕ) (i x : ℕ) → some_above most xs ≡ false → x ≤ most → some_above most (set xs i x) ≡ false
unfolding some_above
some_above-set most [] i x e h = refl
some_above-set most (y ∷ ys) zero x e h =
    neither (ltb most x) (some_above most ys) (le-ltb most x h) (both_false (ltb most y) (some_above most ys) e).1
some_above-set most (y ∷ ys) (suc i) x e h =
    let two = both_false (ltb most y) (some_above most ys) e in
    neither (ltb most y) (some_above most (set ys i x)) two.0 (some_above-set most ys i x two.1 h)

pub is_in_get_d : (xs : List ℕ) (i : ℕ) → i < length xs → is_in (get_or xs i 0) xs ≡ true
unfolding is_in
is_in_get_d [] i h = absurd (omega arith)
is_in_get_d (x ∷ xs) zero h = rw (eq-eqb x x refl)
is_in_get_d (x ∷ xs) (suc i) h = rw (is_in_get_d xs i (omega arith)) (go (eqb x (get_or xs i 0)))
  where
    go : (b : Bool) → (b || true) ≡ true
    go true = refl
    go false = refl

-- two numbers of a list of different ones are at one place
pub same_place : (xs : List ℕ) → distinct xs ≡ true → (i j : ℕ) → i < length xs → j < length xs → get_or xs i 0 ≡ get_or xs j 0 → i ≡ j
unfolding distinct
same_place [] e i j h k p = absurd (omega arith)
same_place (x ∷ xs) e zero zero h k p = refl
same_place (x ∷ xs) e zero (suc j) h k p =
    let two = both_true (not (is_in x xs)) (distinct xs) e in
    absurd (true≢false (sym (is_in_get_d xs j (omega arith)) ∙ rw (← p) (not-true (is_in x xs) two.0)))
same_place (x ∷ xs) e (suc i) zero h k p =
    let two = both_true (not (is_in x xs)) (distinct xs) e in
    absurd (true≢false (sym (is_in_get_d xs i (omega arith)) ∙ rw p (not-true (is_in x xs) two.0)))
same_place (x ∷ xs) e (suc i) (suc j) h k p =
    let two = both_true (not (is_in x xs)) (distinct xs) e in
    ap suc (same_place xs two.1 i j (omega arith) (omega arith) p)

-- ---- where a number stands

pub index_of-found : (x : ℕ) (xs : List ℕ) → is_in x xs ≡ true → (index_of x xs < length xs) × (get_or xs (index_of x xs) 0 ≡ x)
unfolding is_in index_of
index_of-found x [] e = absurd (false≢true e)
index_of-found x (y ∷ xs) e =
    by (eqb y x)
    (λ f. rw f (omega arith, eqb-true y x f))
    (λ f. let rest = index_of-found x xs (rw f at e) in rw f (omega (arith, rest.0), rest.1))

pub index_of-absent : (x : ℕ) (xs : List ℕ) → is_in x xs ≡ false → index_of x xs ≡ length xs
unfolding is_in index_of
index_of-absent x [] e = refl
index_of-absent x (y ∷ xs) e =
    let two = both_false (eqb y x) (is_in x xs) e in
    rw (two.0, index_of-absent x xs two.1)

-- ---- how many different numbers there are

-- of different numbers at most one is taken out
length_without : (x : ℕ) (ys : List ℕ) → distinct ys ≡ true → length ys ≤ suc (length (without x ys))
unfolding distinct without unless
length_without x [] e = omega arith
length_without x (y ∷ ys) e =
    let two = both_true (not (is_in y ys)) (distinct ys) e in
    by (eqb y x)
    (λ f. rw (f, without_absent x ys (rw (eqb-true y x f) at (not-true (is_in y ys) two.0))) (omega arith))
    (λ f. rw f (omega (arith, length_without x ys two.1)))

lower_without : (n : ℕ) (xs : List ℕ) → some_above (suc n) xs ≡ false → some_above n (without (suc n) xs) ≡ false
unfolding some_above without unless
lower_without n [] e = refl
lower_without n (x ∷ xs) e =
    let two = both_false (ltb (suc n) x) (some_above (suc n) xs) e in
    by (eqb x (suc n))
    (λ f. rw f (lower_without n xs two.1))
    (λ f. rw f (neither (ltb n x) (some_above n (without (suc n) xs)) (at x two.0 f) (lower_without n xs two.1)))
  where
    at : (x : ℕ) → ltb (suc n) x ≡ false → eqb x (suc n) ≡ false → ltb n x ≡ false
    at x e f =
        by (ltb n x)
        (λ g. absurd (eqb-false x (suc n) f (omega (arith, ltb-true n x g, ltb-false (suc n) x e))))
        (λ g. g)

-- different numbers up to n are at most n + 1
pub pigeonhole : (n : ℕ) (xs : List ℕ) → distinct xs ≡ true → some_above n xs ≡ false → length xs ≤ suc n
unfolding some_above without unless
pigeonhole zero xs d a =
    omega (arith, length_without zero xs d, none xs a)
  where
    none : (xs : List ℕ) → some_above zero xs ≡ false → length (without zero xs) ≡ 0
    none [] e = refl
    none (x ∷ xs) e =
        let two = both_false (ltb zero x) (some_above zero xs) e in
        rw (eq-eqb x zero (omega (arith, ltb-false zero x two.0))) (none xs two.1)
pigeonhole (suc n) xs d a =
    omega (arith, length_without (suc n) xs d, pigeonhole n (without (suc n) xs) (distinct_without (suc n) xs d) (lower_without n xs a))

-- ---- an order of serving, and a lane served

module _ (most l : ℕ) (order : List ℕ) (h : l ≤ most) (d : distinct order ≡ true) (a : some_above most order ≡ false) where
  pub room_to_serve : length (without l order) ≤ most
  unfolding distinct some_above
  room_to_serve =
      omega (
        arith,
        pigeonhole most (l ∷ without l order)
            (both (not (is_in l (without l order))) (distinct (without l order)) (rw (is_in_without l order)) (distinct_without l order d))
            (neither (ltb most l) (some_above most (without l order)) (le-ltb most l h) (some_above_without most l order a)),
      )

  pub served_last-distinct : distinct (served_last l order) ≡ true
  unfolding served_last
  served_last-distinct = distinct_snoc (without l order) l ∙ rw (is_in_without l order, distinct_without l order d)

  pub served_last_not_above : some_above most (served_last l order) ≡ false
  unfolding served_last
  served_last_not_above = some_above_snoc most (without l order) l ∙ rw (some_above_without most l order a) (le-ltb most l h)

  pub length-served_last : length (served_last l order) ≤ suc most
  unfolding served_last
  length-served_last = simp length-append (omega (arith, room_to_serve))
