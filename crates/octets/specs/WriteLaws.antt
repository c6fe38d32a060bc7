-- Laws of writes: parts of a buffer after one, writes in a row, and loops that write.
use Rattle.std.specs.Prelude.{◌≡◌, List, [], ◌∷◌, ◌++◌, ℕ, zero, suc, ◌+◌, ◌-◌, ◌*◌, ◌≤◌, ◌<◌, length, take, drop, get_or}
use Rattle.std.proofs.Common.{sym, ap, ◌∙◌, append_assoc, append-nil, add-zero, zero-add, add-one, arith, take-append-drop, length-append, drop_of_length-le, length-take-le, take-suc, take-add, drop-drop}
use Rattle.octets.specs.Octets.{part, patch, be, word_at, words, bytes}
use Rattle.octets.specs.Strings.{joined}
use Rattle.octets.specs.OctetsLaws.{length-bytes, bytes_append, word_at-part, patch-patch}
use Rattle.octets.specs.StringsLaws.{part_left, part_skip, part-patch, part_all, part-zero, be-word_at}

-- ---- parts of a buffer after a write

pub part-add : (at n m : ℕ) (xs : List ℕ) → part at (n + m) xs ≡ part at n xs ++ part (at + n) m xs
unfolding part
part-add at n m xs = take-add n m (drop at xs) ∙ rw (drop-drop n at xs)

pub part-own : (a n : ℕ) (ws xs : List ℕ) → a ≤ length xs → length ws ≡ n → part a n (patch a ws xs) ≡ ws
part-own a n ws xs h l =
    ap (λ (b : ℕ). part b n (patch a ws xs)) (sym (add-zero a)) ∙ part-patch a 0 n ws xs h (omega arith) ∙ part_all ws n l

pub part_before : (a n b : ℕ) (ws xs : List ℕ) → a + n ≤ b → b ≤ length xs → part a n (patch b ws xs) ≡ part a n xs
unfolding patch
part_before a n b ws xs h k =
    let l : length (take b xs) ≡ b = length-take-le b xs k in
    part_left (take b xs) _ a n (omega arith) ∙ sym (part_left (take b xs) (drop b xs) a n (omega arith)) ∙ ap (part a n) (take-append-drop b xs)

pub part_after : (a n b : ℕ) (ws xs : List ℕ) → b + length ws ≤ a → b ≤ length xs → part a n (patch b ws xs) ≡ part a n xs
unfolding patch part
part_after a n b ws xs h k =
    let m = b + length ws in
    let d = a - m in
    let e : a ≡ m + d = omega arith in
    let l : length (take b xs ++ ws) ≡ m = length-append (take b xs) ws ∙ ap (λ (i : ℕ). i + length ws) (length-take-le b xs k) in
    ap (λ (y : List ℕ). take n (drop a y)) (sym (append_assoc (take b xs) ws (drop m xs)))
    ∙ rw e (part_skip (take b xs ++ ws) (drop m xs) m d n l ∙ ap (take n) (drop-drop d m xs))

-- bytes read as words give the same bytes, where each is below 256
module _ (xs : List ℕ) (byte : (i : ℕ) → get_or xs i 0 < 256) where
  pub bytes-words : (at k t : ℕ) → at + k ≤ length xs → 4 * t ≤ k → bytes (words t (part at k xs)) ≡ part at (4 * t) xs
  unfolding bytes words
  bytes-words at k zero h e = sym (part-zero at xs)
  bytes-words at k (suc t) h e =
      let x = word_at (part at k xs) (4 * t) in
      let read : be 4 x ≡ part (at + 4 * t) 4 xs = ap (be 4) (word_at-part at k (4 * t) xs (omega arith)) ∙ be-word_at xs byte (at + 4 * t) (omega arith) in
      let n : 4 * suc t ≡ 4 * t + 4 = omega arith in
      bytes_append (words t (part at k xs)) (x ∷ [])
      ∙ rw (bytes-words at k t h (omega arith), append-nil, read, n) (sym (part-add at (4 * t) 4 xs))

-- ---- writes in a row

-- a buffer before the first write
pub patch_none : (at : ℕ) (xs : List ℕ) → xs ≡ patch at [] xs
unfolding patch
patch_none at xs = sym (ap (λ (n : ℕ). take at xs ++ drop n xs) (add-zero at) ∙ take-append-drop at xs)

-- a write over the whole
pub patch_all : (ws xs : List ℕ) → length xs ≤ length ws → patch 0 ws xs ≡ ws
unfolding patch
patch_all ws xs h = rw (zero-add, drop_of_length-le xs {i = length ws} h, append-nil)

pub patch-whole : (ws xs : List ℕ) → length ws ≡ length xs → patch 0 ws xs ≡ ws
patch-whole ws xs e = patch_all ws xs (omega arith)

-- a write where the one before it ended
pub patch_next : (from at : ℕ) (us vs xs ys zs : List ℕ) → ys ≡ patch from us xs → at ≡ from + length us → from ≤ length xs
    → zs ≡ patch at vs ys → zs ≡ patch from (us ++ vs) xs
patch_next from at us vs xs ys zs e f h p = p ∙ rw (e, f) (patch-patch from us vs xs h)

-- two writes that fill a buffer
pub pieces : (at : ℕ) (us vs zs a b : List ℕ) → a ≡ patch 0 us zs → at ≡ length us → length us + length vs ≡ length zs
    → b ≡ patch at vs a → b ≡ us ++ vs
pieces at us vs zs a b e f l p =
    patch_next 0 at us vs zs a b e (omega arith) (omega arith) p ∙ patch-whole (us ++ vs) zs (rw length-append l)

-- one pass of a loop that writes the bytes of words
pub words-written : (at i : ℕ) (h xs out r : List ℕ) → out ≡ patch at (bytes (take i h)) xs → i < length h → at ≤ length xs
    → r ≡ patch (at + 4 * i) (be 4 (get_or h i 0)) out → r ≡ patch at (bytes (take (i + 1) h)) xs
unfolding bytes
words-written at i h xs out r e k l p =
    let n : length (bytes (take i h)) ≡ 4 * i = length-bytes (take i h) ∙ ap (λ (j : ℕ). 4 * j) (length-take-le i h (omega arith)) in
    let last : bytes (take (suc i) h) ≡ bytes (take i h) ++ be 4 (get_or h i 0) =
    ap bytes (take-suc h i 0 k) ∙ bytes_append (take i h) (get_or h i 0 ∷ [])
    ∙ ap (λ (l : List ℕ). bytes (take i h) ++ l) (append-nil (be 4 (get_or h i 0))) in
    patch_next at (at + 4 * i) (bytes (take i h)) (be 4 (get_or h i 0)) xs out r e (omega arith) l p
    ∙ rw (add-one, last)

-- one pass of a loop that writes strings of 32 bytes, one after the other
pub joined-written : (f : ℕ → List ℕ) (at i : ℕ) (xs out y r : List ℕ) → length (joined f i) ≡ 32 * i → at ≤ length xs
    → out ≡ patch at (joined f i) xs → y ≡ f i → r ≡ patch (at + 32 * i) y out → r ≡ patch at (joined f (i + 1)) xs
unfolding joined
joined-written f at i xs out y r n l e k p =
    patch_next at (at + 32 * i) (joined f i) (f i) xs out r e (omega arith) l (p ∙ rw k) ∙ rw add-one
