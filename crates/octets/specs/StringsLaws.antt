-- Laws of byte strings: parts, patches and numbers read back, joined and compared strings.
use Rattle.std.specs.Prelude.{◌≡◌, refl, Bool, true, false, List, [], ◌∷◌, ◌++◌, ℕ, zero, suc, ◌+◌, ◌*◌, ◌/◌, ◌%◌, ◌^◌, ◌≤◌, ◌<◌, eqb, length, take, drop, get_or, nat_eq, ◌&&◌}
use Rattle.std.proofs.Common.{sym, ap, ap₂, ◌∙◌, ⊎_elim, append_assoc, append-nil, add_assoc, add-zero, add-suc, pow-suc, eq-or-lt_of_le, le_of_suc-le-suc, mul-le-mul_left, div-lt_iff_lt-mul, add-one, arith, lit<, length-append, length-take, length-drop, drop_at, take-take, drop-drop, drop-cons, take_all, length-take-le, eqb-true, eq-eqb}
use Rattle.std.proofs.Math.Bool.{and-eq-true_iff}
use Rattle.std.proofs.lemmas.Bool.{false≢true}
use Rattle.std.proofs.Math.Nat.{suc_inj}
use Rattle.std.proofs.Math.Numerals.{add-two, add-three}
use Rattle.std.proofs.lemmas.List.{take-append-le, drop-append-le}
use Rattle.std.proofs.Math.Seq.{drop-append-add}
use Rattle.std.specs.Cmp.Lexicographic.{pointwise}
use Rattle.octets.specs.Octets.{part, patch, be, number_from, number, word, word_at}
use Rattle.octets.specs.OctetsLaws.{be-four}
use Rattle.octets.specs.Strings.{joined, same}

-- ---- parts

-- a part past a front of length `at`
pub part_skip : (front xs : List ℕ) (at i n : ℕ) → length front ≡ at → part (at + i) n (front ++ xs) ≡ part i n xs
unfolding part
part_skip front xs at i n e = rw (← e, drop-append-add)

-- a part before a rest
pub part_left : (xs rest : List ℕ) (at n : ℕ) → at + n ≤ length xs → part at n (xs ++ rest) ≡ part at n xs
unfolding part
part_left xs rest at n h =
    ap (take n) (drop-append-le at xs rest (omega arith))
    ∙ take-append-le n (drop at xs) rest (simp length-drop (omega arith))

pub part_all : (xs : List ℕ) (n : ℕ) → length xs ≡ n → part 0 n xs ≡ xs
unfolding part
part_all xs n e = take_all n xs (omega arith)

-- the string at the front
pub part-front : (xs rest : List ℕ) (n : ℕ) → length xs ≡ n → part 0 n (xs ++ rest) ≡ xs
part-front xs rest n e = part_left xs rest 0 n (omega arith) ∙ part_all xs n e

-- the string after a front
pub part_end : (front xs : List ℕ) (at n : ℕ) → length front ≡ at → length xs ≡ n → part at n (front ++ xs) ≡ xs
part_end front xs at n e k =
    ap (λ (a : ℕ). part a n (front ++ xs)) (sym (add-zero at)) ∙ part_skip front xs at 0 n e ∙ part_all xs n k

-- the string between a front and a rest
pub part_between : (front xs rest : List ℕ) (at n : ℕ) → length front ≡ at → length xs ≡ n → part at n (front ++ xs ++ rest) ≡ xs
part_between front xs rest at n e k =
    part_left (front ++ xs) rest at n (rw length-append (omega arith)) ∙ part_end front xs at n e k

-- a part of a part
take-drop-take : (n at size : ℕ) (xs : List ℕ) → at + n ≤ size → take n (drop at (take size xs)) ≡ take n (drop at xs)
take-drop-take n zero size xs h = take-take n size xs (omega arith)
take-drop-take n (suc at) zero xs h = absurd (omega arith)
take-drop-take n (suc at) (suc size) [] h = refl
take-drop-take n (suc at) (suc size) (x ∷ xs) h = take-drop-take n at size xs (omega arith)

pub part-part : (at n from size : ℕ) (xs : List ℕ) → at + n ≤ size → part at n (part from size xs) ≡ part (from + at) n xs
unfolding part
part-part at n from size xs h = take-drop-take n at size (drop from xs) h ∙ ap (take n) (drop-drop at from xs)

pub part-suc : (at n : ℕ) (xs : List ℕ) → at < length xs → part at (suc n) xs ≡ get_or xs at 0 ∷ part (suc at) n xs
unfolding part
part-suc at n xs h = rw (drop-cons xs at 0)

-- ---- patches

-- a part of the bytes written
pub part-patch : (at i n : ℕ) (ws xs : List ℕ) → at ≤ length xs → i + n ≤ length ws → part (at + i) n (patch at ws xs) ≡ part i n ws
unfolding patch
part-patch at i n ws xs h k =
    part_skip (take at xs) (ws ++ drop (at + length ws) xs) at i n (length-take-le at xs h)
    ∙ part_left ws (drop (at + length ws) xs) i n k

-- a write just before another: both are one
pub patch_before : (at : ℕ) (us vs xs : List ℕ) → at + length us ≤ length xs
    → patch at us (patch (at + length us) vs xs) ≡ patch at (us ++ vs) xs
unfolding patch
patch_before at us vs xs h =
    let front : take at (patch (at + length us) vs xs) ≡ take at xs =
    take-append-le at (take (at + length us) xs) (vs ++ drop (at + length us + length vs) xs) (simp length-take (omega arith))
    ∙ take-take at (at + length us) xs (omega arith) in
    let rest : drop (at + length us) (patch (at + length us) vs xs) ≡ vs ++ drop (at + length us + length vs) xs =
    drop_at (take (at + length us) xs) (vs ++ drop (at + length us + length vs) xs) (at + length us)
    (length-take-le (at + length us) xs h) in
    rw (front, rest, length-append, ← add_assoc, append_assoc)

-- nothing written leaves the buffer as it was
pub patch-nothing : (xs : List ℕ) → patch 0 [] xs ≡ xs
unfolding patch
patch-nothing xs = refl

-- ---- numbers

pub be-one : (x : ℕ) → be 1 x ≡ x % 256 ∷ []
unfolding be
be-one x = refl

-- the two bytes of a number, as code computes them
pub be-two : (x : ℕ) → be 2 x ≡ x / 256 % 256 ∷ x % 256 ∷ []
unfolding be
be-two x = refl

number_from_append : (n : ℕ) (xs ys : List ℕ) → number_from n (xs ++ ys) ≡ number_from (number_from n xs) ys
unfolding number_from
number_from_append n [] ys = refl
number_from_append n (x ∷ xs) ys = number_from_append (n * 256 + x) xs ys

pub number-be : (w x : ℕ) → x < 256 ^ w → number (be w x) ≡ x
unfolding number number_from be
number-be zero x h = omega arith
number-be (suc w) x h =
    let k : x / 256 < 256 ^ w = (div-lt_iff_lt-mul {k = 256} (lit< tt)).1 (rw pow-suc at h) in
    let ih : number_from 0 (be w (x / 256)) ≡ x / 256 = number-be w (x / 256) k in
    number_from_append 0 (be w (x / 256)) (x % 256 ∷ []) ∙ rw ih (omega arith)

pub part-zero : (at : ℕ) (xs : List ℕ) → part at 0 xs ≡ []
unfolding part
part-zero at xs = refl

-- the number of four bytes of a string, as code reads it
pub number-part-four : (at : ℕ) (xs : List ℕ) → at + 4 ≤ length xs → number (part at 4 xs) ≡ word_at xs at
unfolding number number_from
number-part-four at xs h =
    rw (
      part-suc at 3 xs (omega arith),
      part-suc (suc at) 2 xs (omega arith),
      part-suc (suc (suc at)) 1 xs (omega arith),
      part-suc (suc (suc (suc at))) 0 xs (omega arith),
      part-zero,
      add-one,
      add-two,
      add-three,
    )
    (omega arith)

be-word : (a b c d : ℕ) → a < 256 → b < 256 → c < 256 → d < 256 → be 4 (word a b c d) ≡ a ∷ b ∷ c ∷ d ∷ []
be-word a b c d ha hb hc hd =
    let x = word a b c d in
    let p : x / 16777216 % 256 ≡ a = omega arith in
    let q : x / 65536 % 256 ≡ b = omega arith in
    let r : x / 256 % 256 ≡ c = omega arith in
    let s : x % 256 ≡ d = omega arith in
    rw (be-four, p, q, r, s)

-- and the bytes of that number, where each is below 256
pub be-word_at : (xs : List ℕ) → ((i : ℕ) → get_or xs i 0 < 256) → (at : ℕ) → at + 4 ≤ length xs → be 4 (word_at xs at) ≡ part at 4 xs
be-word_at xs byte at h =
    be-word _ _ _ _ (byte at) (byte (at + 1)) (byte (at + 2)) (byte (at + 3))
    ∙ rw (
      add-one,
      add-two,
      add-three,
      part-suc at 3 xs (omega arith),
      part-suc (suc at) 2 xs (omega arith),
      part-suc (suc (suc at)) 1 xs (omega arith),
      part-suc (suc (suc (suc at))) 0 xs (omega arith),
      part-zero,
    )

-- ---- joined strings

pub length-joined : (k : ℕ) (f : ℕ → List ℕ) (n : ℕ) → ((i : ℕ) → i < n → length (f i) ≡ k) → length (joined f n) ≡ k * n
unfolding joined
length-joined k f zero each = omega arith
length-joined k f (suc n) each =
    simp (length-append, length-joined k f n (λ i h. each i (omega arith)), each n (omega arith)) (omega arith)

pub part-joined : (k : ℕ) (f : ℕ → List ℕ) (n : ℕ) → ((i : ℕ) → i < n → length (f i) ≡ k)
    → (i : ℕ) → i < n → part (k * i) k (joined f n) ≡ f i
unfolding joined
part-joined k f zero each i h = absurd (omega arith)
part-joined k f (suc n) each i h =
    let each' : (j : ℕ) → j < n → length (f j) ≡ k = λ j l. each j (omega arith) in
    ⊎_elim
    (λ (e : suc i ≡ suc n). rw (suc_inj e) (part_end (joined f n) (f n) (k * n) k (length-joined k f n each') (each n (omega arith))))
    (λ (l : suc i < suc n).
    part_left (joined f n) (f n) (k * i) k
    (rw (length-joined k f n each') (omega (arith, mul-le-mul_left k (le_of_suc-le-suc l))))
    ∙ part-joined k f n each' i (le_of_suc-le-suc l))
    (eq-or-lt_of_le h)

pub joined_same : (f g : ℕ → List ℕ) (n : ℕ) → ((i : ℕ) → i < n → f i ≡ g i) → joined f n ≡ joined g n
unfolding joined
joined_same f g zero h = refl
joined_same f g (suc n) h = ap₂ ◌++◌ (joined_same f g n (λ i k. h i (omega arith))) (h n (omega arith))

pub joined-add : (f : ℕ → List ℕ) (n m : ℕ) → joined f (n + m) ≡ joined f n ++ joined (λ i. f (n + i)) m
unfolding joined
joined-add f n zero = rw (add-zero, append-nil)
joined-add f n (suc m) = rw (add-suc, joined-add f n m, append_assoc)

-- ---- compared strings

pub same_refl : (xs : List ℕ) → same xs xs ≡ true
unfolding same
same_refl [] = refl
same_refl (x ∷ xs) = rw (eq-eqb x x refl, same_refl xs)

pub same_true : (xs ys : List ℕ) → same xs ys ≡ true → xs ≡ ys
unfolding same
same_true [] [] e = refl
same_true [] (y ∷ ys) e = absurd (false≢true e)
same_true (x ∷ xs) [] e = absurd (false≢true e)
same_true (x ∷ xs) (y ∷ ys) e =
    let k = (and-eq-true_iff (eqb x y) (same xs ys)).0 e in
    ap₂ ◌∷◌ (eqb-true x y k.0) (same_true xs ys k.1)

pub same_false : (xs ys : List ℕ) → (xs ≡ ys → ⊥) → same xs ys ≡ false
same_false xs ys h = go (same xs ys) refl
  where
    go : (b : Bool) → same xs ys ≡ b → b ≡ false
    go true e = absurd (h (same_true xs ys e))
    go false e = refl

-- slices compared by `==`
pub equal_same : (xs ys : List ℕ) → pointwise nat_eq xs ys ≡ same xs ys
unfolding same
equal_same [] [] = refl
equal_same [] (y ∷ ys) = refl
equal_same (x ∷ xs) [] = refl
equal_same (x ∷ xs) (y ∷ ys) = ap (λ (b : Bool). eqb x y && b) (equal_same xs ys)
