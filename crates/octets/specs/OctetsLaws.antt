-- Laws of parts, patches and big-endian numbers.
use Rattle.std.specs.Prelude.{◌≡◌, refl, List, [], ◌∷◌, ◌++◌, ℕ, zero, suc, ◌+◌, ◌-◌, ◌*◌, ◌/◌, ◌%◌, ◌≤◌, ◌<◌, replicate, length, take, drop, get_or, set}
use Rattle.std.proofs.Common.{sym, ap, subst, ◌∙◌, append_assoc, add_assoc, not-suc-le-zero, le_of_suc-le-suc, add-one, arith, length-append, length-take, length-drop, drop_of_length-le, drop-cons, take_all, take-suc-set, take_at, drop_at, drop-drop, get_or-take, get_or-drop}
use Rattle.std.proofs.Math.Nat.{sub-zero, zero-sub, suc-sub-suc}
use Rattle.std.proofs.Math.Seq.{paste, take-length}
use Rattle.octets.specs.Octets.{part, patch, be, word_at, words, bytes}

-- ---- loops that fill a list from the front

-- the end of a loop that makes the first i elements of w, which has n
pub whole_from_take : (w : List ℕ) (f : ℕ → List ℕ) (i n : ℕ) → i ≡ n → length w ≡ n → take i w ≡ f i → w ≡ f n
whole_from_take w f i n e l h = sym (subst (λ (k : ℕ). take k w ≡ w) l (take-length w)) ∙ subst (λ (k : ℕ). take k w ≡ f k) e h

-- ---- a run of one byte

pub drop-replicate : (i n a : ℕ) → drop i (replicate n a) ≡ replicate (n - i) a
drop-replicate zero n a = ap (λ (j : ℕ). replicate j a) (sym (sub-zero n))
drop-replicate (suc i) zero a = ap (λ (j : ℕ). replicate j a) (sym (zero-sub (suc i)))
drop-replicate (suc i) (suc n) a = drop-replicate i n a ∙ ap (λ (j : ℕ). replicate j a) (sym (suc-sub-suc n i))

pub take-replicate : (i n a : ℕ) → i ≤ n → take i (replicate n a) ≡ replicate i a
take-replicate zero n a h = refl
take-replicate (suc i) zero a h = absurd (not-suc-le-zero h)
take-replicate (suc i) (suc n) a h = ap {B = List ℕ} (λ r. a ∷ r) (take-replicate i n a (le_of_suc-le-suc h))

-- ---- lists of a known length, element by element

listed : ℕ → ℕ → List ℕ → List ℕ
listed at zero xs = []
listed at (suc n) xs = get_or xs at 0 ∷ listed (suc at) n xs

listed-rest : (at n : ℕ) (xs : List ℕ) → at + n ≡ length xs → listed at n xs ≡ drop at xs
unfolding listed
listed-rest at zero xs e = sym (drop_of_length-le xs {i = at} (omega arith))
listed-rest at (suc n) xs e =
    ap (λ (l : List ℕ). get_or xs at 0 ∷ l) (listed-rest (suc at) n xs (omega arith)) ∙ sym (drop-cons xs at 0 (omega arith))

pub as_four : (xs : List ℕ) → length xs ≡ 4 → get_or xs 0 0 ∷ get_or xs 1 0 ∷ get_or xs 2 0 ∷ get_or xs 3 0 ∷ [] ≡ xs
unfolding listed
as_four xs e = listed-rest 0 4 xs (sym e)

pub as_eight : (xs : List ℕ) → length xs ≡ 8
    → get_or xs 0 0 ∷ get_or xs 1 0 ∷ get_or xs 2 0 ∷ get_or xs 3 0 ∷ get_or xs 4 0 ∷ get_or xs 5 0 ∷ get_or xs 6 0 ∷ get_or xs 7 0 ∷ [] ≡ xs
unfolding listed
as_eight xs e = listed-rest 0 8 xs (sym e)

-- ---- parts

-- the part `xs[at..]`
pub take_rest : (at : ℕ) (xs : List ℕ) → take (length xs - at) (drop at xs) ≡ drop at xs
take_rest at xs = take_all (length xs - at) (drop at xs) (simp length-drop (omega arith))

pub length_part : (at n : ℕ) (xs : List ℕ) → at + n ≤ length xs → length (part at n xs) ≡ n
unfolding part
length_part at n xs h = simp (length-take, length-drop) (omega arith)

get_d_part : (at n : ℕ) (xs : List ℕ) (i : ℕ) → i < n → get_or (part at n xs) i 0 ≡ get_or xs (at + i) 0
unfolding part
get_d_part at n xs i h = rw (get_or-take, get_or-drop)

-- ---- patches

pub length-patch : (at : ℕ) (ws xs : List ℕ) → at + length ws ≤ length xs → length (patch at ws xs) ≡ length xs
unfolding patch
length-patch at ws xs h = simp (length-append, length-take, length-drop) (omega arith)

pub take-patch : (at : ℕ) (ws xs : List ℕ) → at ≤ length xs → take (at + length ws) (patch at ws xs) ≡ take at xs ++ ws
unfolding patch
take-patch at ws xs h =
    ap (take (at + length ws)) (sym (append_assoc (take at xs) ws (drop (at + length ws) xs)))
    ∙ take_at (take at xs ++ ws) (drop (at + length ws) xs) (at + length ws) (simp (length-append, length-take) (omega arith))

-- a write before place i leaves the bytes from there on
pub drop-patch : (i at : ℕ) (ws xs : List ℕ) → at + length ws ≤ i → at ≤ length xs → drop i (patch at ws xs) ≡ drop i xs
unfolding patch
drop-patch i at ws xs e h =
    let end = at + length ws in
    let after : drop end (patch at ws xs) ≡ drop end xs =
    ap (drop end) (sym (append_assoc (take at xs) ws (drop end xs)))
    ∙ drop_at (take at xs ++ ws) (drop end xs) end (simp (length-append, length-take) (omega arith)) in
    let rest = i - end in
    let sum : end + rest ≡ i = omega arith in
    subst (λ (j : ℕ). drop j (patch at ws xs) ≡ drop j xs) sum
    (sym (drop-drop rest end (patch at ws xs)) ∙ ap (drop rest) after ∙ drop-drop rest end xs)

-- two writes in a row are one
pub patch-patch : (at : ℕ) (us vs xs : List ℕ) → at ≤ length xs → patch (at + length us) vs (patch at us xs) ≡ patch at (us ++ vs) xs
unfolding patch
patch-patch at us vs xs h =
    let t = take-patch at us xs h in
    let d = drop-patch (at + length us + length vs) at us xs (omega arith) h in
    rw (t, d, length-append, ← add_assoc, append_assoc, append_assoc)

-- a write over the k bytes from index `at`, as code makes it
pub patch-mid : (at k : ℕ) (ws ys xs : List ℕ) → ys ≡ ws → k ≡ length ws → take at xs ++ (ys ++ drop k (drop at xs)) ≡ patch at ws xs
unfolding patch
patch-mid at k ws ys xs e l = rw (e, l, drop-drop (length ws) at xs)

-- a copy of the whole of ws is a patch
pub patch-paste : (at : ℕ) (ws xs : List ℕ) → paste xs at ws (length ws) ≡ patch at ws xs
unfolding patch
patch-paste at ws xs = rw (take-length, append_assoc)

-- ---- big-endian bytes

pub length-be : (w n : ℕ) → length (be w n) ≡ w
unfolding be
length-be zero n = refl
length-be (suc w) n = simp (length-append, length-be w (n / 256)) (omega arith)

-- the four bytes of a word, as code computes them
pub be-four : (x : ℕ) → be 4 x ≡ x / 16777216 % 256 ∷ x / 65536 % 256 ∷ x / 256 % 256 ∷ x % 256 ∷ []
unfolding be
be-four x =
    let p : x / 256 / 256 ≡ x / 65536 = omega arith in
    let q : x / 256 / 256 / 256 ≡ x / 16777216 = omega arith in
    rw (q, p)

-- ---- words

pub length-bytes : (ws : List ℕ) → length (bytes ws) ≡ 4 * length ws
unfolding bytes
length-bytes [] = refl
length-bytes (w ∷ ws) = simp (length-append, length-be, length-bytes ws) (omega arith)

pub bytes_append : (us vs : List ℕ) → bytes (us ++ vs) ≡ bytes us ++ bytes vs
unfolding bytes
bytes_append [] vs = refl
bytes_append (u ∷ us) vs = ap (λ (l : List ℕ). be 4 u ++ l) (bytes_append us vs) ∙ sym (append_assoc (be 4 u) (bytes us) (bytes vs))

pub word_at-part : (at n i : ℕ) (xs : List ℕ) → i + 4 ≤ n → word_at (part at n xs) i ≡ word_at xs (at + i)
word_at-part at n i xs h =
    rw (get_d_part at n xs i (omega arith), get_d_part at n xs (i + 1) (omega arith), get_d_part at n xs (i + 2) (omega arith), get_d_part at n xs (i + 3) (omega arith), ← add_assoc at i 1, ← add_assoc at i 2, ← add_assoc at i 3)

-- one pass of a loop that reads words into w
pub words_next : (w xs : List ℕ) (t x : ℕ) → take t w ≡ words t xs → t < length w → x ≡ word_at xs (4 * t)
    → take (t + 1) (set w t x) ≡ words (t + 1) xs
unfolding words
words_next w xs t x e h p = rw (add-one, p, take-suc-set w t, e)
