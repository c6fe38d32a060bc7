-- Laws of SHA-256.
use Rattle.std.specs.Prelude.{◌≡◌, refl, List, [], ◌∷◌, ◌++◌, ℕ, zero, suc, ◌+◌, ◌-◌, ◌*◌, ◌/◌, ◌%◌, ◌^◌, ◌≤◌, ◌<◌, Bool, true, false, cond, ◌⊎◌, ltb, replicate, length, get_or, take, drop, set}
use Rattle.std.proofs.Common.{sym, ap, ap₂, ◌∙◌, append_assoc, add-zero, add-suc, add-one, arith, inl, inr, ⊎_elim, ltb-true, ltb-false, drop_of_length-le, length-append, length-take, length-drop, take-append-drop, take_all, take-suc-set, get_or-take}
use Rattle.std.proofs.lemmas.List.{length-replicate, take-append-le, drop-append-le}
use Rattle.std.proofs.Math.Seq.{set-append_seam, take-append-add, drop-append-add}
use Rattle.std.specs.Int.{w64, to_be_bytes}
use Rattle.octets.specs.Octets.{part, patch, be, words, bytes}
use Rattle.octets.specs.OctetsLaws.{take_rest, drop-replicate, take-replicate, patch-patch, take-patch, length-be, length-bytes}
use Rattle.fips180.specs.Constants.{constants, initial}
use Rattle.fips180.specs.Fips.{scheduled, schedule, round, rounds, sums, compress, padding, pad, hashed, absorbed, sha256}
use Rattle.fips180.specs.Pieces.{ended, one_block}

-- ---- the schedule, as a loop fills it

-- W[t] depends only on the words before it
scheduled-take : (w : List ℕ) (t : ℕ) → 16 ≤ t → scheduled (take t w) t ≡ scheduled w t
unfolding scheduled
scheduled-take w t h =
    let a : t - 2 < t = omega arith in
    let b : t - 7 < t = omega arith in
    let d : t - 15 < t = omega arith in
    let e : t - 16 < t = omega arith in
    simp (get_or-take)

-- one pass of the loop
pub schedule_next : (m w : List ℕ) (t x : ℕ) → 16 ≤ t → take t w ≡ schedule m (t - 16) → t < length w → x ≡ scheduled w t
    → take (t + 1) (set w t x) ≡ schedule m (t + 1 - 16)
unfolding schedule
schedule_next m w t x l e h p =
    let s : scheduled w t ≡ scheduled (schedule m (t - 16)) t = sym (scheduled-take w t l) ∙ ap (λ (l : List ℕ). scheduled l t) e in
    let n : t + 1 - 16 ≡ suc (t - 16) = omega arith in
    let place : 16 + (t - 16) ≡ t = omega arith in
    rw (n, place, add-one, p, take-suc-set w t) (rw (e, s))

-- ---- the rounds, as a loop runs them

pub rounds_next : (w h k s r : List ℕ) (t u : ℕ) → u ≡ t + 1 → k ≡ constants → s ≡ rounds w h t
    → r ≡ round (get_or k t 0) (get_or w t 0) s → r ≡ rounds w h u
unfolding rounds
rounds_next w h k s r t u n p e q = rw (n, add-one, ← p, ← e) q

-- ---- lengths

length-compress : (h m : List ℕ) → length (compress h m) ≡ 8
unfolding compress sums
length-compress h m = refl

length-hashed : (h m : List ℕ) (t : ℕ) → length h ≡ 8 → length (hashed h m t) ≡ 8
unfolding hashed
length-hashed h m zero e = e
length-hashed h m (suc t) e = length-compress (hashed h m t) _

length-initial : length initial ≡ 8
unfolding initial
length-initial = refl

length-absorbed : (h m : List ℕ) → length h ≡ 8 → length (absorbed h m) ≡ 8
unfolding absorbed
length-absorbed h m e = length-hashed h m (length m / 64) e

pub length-sha256 : (m : List ℕ) → length (sha256 m) ≡ 32
unfolding sha256
length-sha256 m = length-bytes _ ∙ ap (λ (n : ℕ). 4 * n) (length-absorbed initial (pad m) length-initial)

-- ---- blocks, piece by piece

hashed-front : (h xs ys : List ℕ) (t : ℕ) → 64 * t ≤ length xs → hashed h (xs ++ ys) t ≡ hashed h xs t
unfolding hashed part
hashed-front h xs ys zero e = refl
hashed-front h xs ys (suc t) e =
    let ih = hashed-front h xs ys t (omega arith) in
    let d : drop (64 * t) (xs ++ ys) ≡ drop (64 * t) xs ++ ys = drop-append-le (64 * t) xs ys (omega arith) in
    let l : 64 ≤ length (drop (64 * t) xs) = simp length-drop (omega arith) in
    let p : take 64 (drop (64 * t) xs ++ ys) ≡ take 64 (drop (64 * t) xs) = take-append-le 64 (drop (64 * t) xs) ys l in
    ap₂ compress ih (ap (words 16) (ap (take 64) d ∙ p))

hashed_back : (h xs ys : List ℕ) (s t : ℕ) → length xs ≡ 64 * s → hashed h (xs ++ ys) (s + t) ≡ hashed (hashed h xs s) ys t
unfolding hashed part
hashed_back h xs ys s zero e = rw add-zero (hashed-front h xs ys s (omega arith))
hashed_back h xs ys s (suc t) e =
    let ih = hashed_back h xs ys s t e in
    let n : 64 * (s + t) ≡ length xs + 64 * t = omega arith in
    rw add-suc (ap₂ compress ih (ap (λ (l : List ℕ). words 16 (take 64 l)) (ap (λ (j : ℕ). drop j (xs ++ ys)) n ∙ drop-append-add xs ys (64 * t))))

-- the bytes of m after its whole blocks
unfoldable pub leftover : List ℕ → List ℕ
leftover m = drop (length m / 64 * 64) m

-- m followed by z: the whole blocks of m, then the rest of m followed by z
absorbed_append : (h m z : List ℕ) → absorbed h (m ++ z) ≡ absorbed (absorbed h m) (leftover m ++ z)
unfolding absorbed leftover
absorbed_append h m z =
    let n = length m / 64 in
    let d = n * 64 in
    let x = take d m in
    let y = drop d m ++ z in
    let whole : x ++ drop d m ≡ m = take-append-drop d m in
    let lx : length x ≡ 64 * n = simp length-take (omega arith) in
    let cut : m ++ z ≡ x ++ y = ap (λ (l : List ℕ). l ++ z) (sym whole) ∙ append_assoc x (drop d m) z in
    let long : length (m ++ z) / 64 ≡ n + length y / 64 = simp (length-append, length-drop) (omega arith) in
    let first : hashed h x n ≡ hashed h m n = sym (hashed-front h x (drop d m) n (omega arith)) ∙ ap (λ (l : List ℕ). hashed h l n) whole in
    ap₂ (hashed h) cut long ∙ hashed_back h x y n (length y / 64) lx ∙ ap (λ (g : List ℕ). hashed g y (length y / 64)) first

-- a message, hashed by its whole blocks and then its end
pub sha256-ends : (m s i r : List ℕ) → i ≡ initial → s ≡ absorbed i m
    → r ≡ bytes (absorbed s (leftover m ++ padding (length m))) → r ≡ sha256 m
unfolding sha256 pad
sha256-ends m s i r e f q = q ∙ rw (f, e) (ap bytes (sym (absorbed_append initial m (padding (length m)))))

-- two messages, one after the other: the whole blocks of the first, and then its end with the second
pub sha256-ends-two : (a b s i r : List ℕ) → i ≡ initial → s ≡ absorbed i a
    → r ≡ bytes (absorbed s (leftover a ++ (b ++ padding (length a + length b)))) → r ≡ sha256 (a ++ b)
unfolding sha256 pad
sha256-ends-two a b s i r e f q =
    q ∙ rw (f, e, length-append, append_assoc) (ap bytes (sym (absorbed_append initial a (b ++ padding (length a + length b)))))

-- a block that starts with a and goes on with b
pub joined-pieces : (a b zs : List ℕ) → length a + length b ≤ length zs
    → take (length a + length b) (patch (length a) b (patch 0 a zs)) ≡ a ++ b
joined-pieces a b zs h =
    let n : length a ≡ 0 + length a = omega arith in
    let l : length a + length b ≡ 0 + length (a ++ b) = simp length-append (omega arith) in
    rw l (ap (λ (k : ℕ). take (0 + length (a ++ b)) (patch k b (patch 0 a zs))) n
    ∙ ap (take (0 + length (a ++ b))) (patch-patch 0 a b zs (omega arith)) ∙ take-patch 0 (a ++ b) zs (omega arith))

-- the tail with m's first bytes is one block; the rest of m goes on after it
absorbed-block : (h tail m z j : List ℕ) (n : ℕ) → j ≡ tail ++ take n m → length j ≡ 64
    → absorbed h (tail ++ (m ++ z)) ≡ absorbed (absorbed (absorbed h j) (drop n m)) (leftover (drop n m) ++ z)
unfolding leftover
absorbed-block h tail m z j n e l =
    let none : drop (length j / 64 * 64) j ≡ [] = drop_of_length-le j {i = length j / 64 * 64} (omega arith) in
    let cut : tail ++ (m ++ z) ≡ j ++ (drop n m ++ z) =
    rw (e, append_assoc) (ap (λ (k : List ℕ). tail ++ (k ++ z)) (sym (take-append-drop n m)) ∙ ap (λ (k : List ℕ). tail ++ k) (append_assoc (take n m) (drop n m) z)) in
    ap (absorbed h) cut ∙ absorbed_append h j (drop n m ++ z)
    ∙ ap (λ (k : List ℕ). absorbed (absorbed h j) (k ++ (drop n m ++ z))) none
    ∙ absorbed_append (absorbed h j) (drop n m) z

-- the same, as the code's parts `m[n..]` and `rest[end..]` have it
pub long-ends : (h tail m z j s t r : List ℕ) (n : ℕ)
    → take (length tail + length (take n m)) j ≡ tail ++ take n m → length j ≡ 64 → length tail + n ≡ 64 → n ≤ length m
    → s ≡ absorbed h j
    → t ≡ absorbed s (take (length m - n) (drop n m))
    → r ≡ bytes (absorbed t (take (length (take (length m - n) (drop n m)) - length (take (length m - n) (drop n m)) / 64 * 64)
    (drop (length (take (length m - n) (drop n m)) / 64 * 64) (take (length m - n) (drop n m))) ++ z))
    → r ≡ bytes (absorbed h (tail ++ (m ++ z)))
unfolding leftover
long-ends h tail m z j s t r n e l f k p q u =
    let whole : take (length tail + length (take n m)) j ≡ j =
    take_all (length tail + length (take n m)) j (simp length-take (omega arith)) in
    let u' = rw (take_rest n m, take_rest (length (drop n m) / 64 * 64) (drop n m)) at u in
    let q' = rw (take_rest n m) at q in
    u' ∙ rw (q', p) (ap bytes (sym (absorbed-block h tail m z j n (sym whole ∙ e) l)))

-- one pass of the loop over the blocks
pub hashed_next : (h m s w r : List ℕ) (t : ℕ) → s ≡ hashed h m t → w ≡ words 16 (part (64 * t) 64 m) → r ≡ compress s w
    → r ≡ hashed h m (t + 1)
unfolding hashed
hashed_next h m s w r t e f q = rw (add-one, ← e, ← f) q

-- ---- one block

pub one-block : (m b : List ℕ) → length b ≡ 64 → b ≡ pad m → one_block b ≡ sha256 m
unfolding one_block sha256 absorbed hashed part
one-block m b l e =
    let n : length b / 64 ≡ 1 = omega arith in
    let w : take 64 b ≡ b = take_all 64 b (omega arith) in
    rw (← e, n) (ap (λ (c : List ℕ). bytes (compress initial (words 16 c))) (sym w))

-- 55 bytes fill a block with the bit 1 and the length
pub pad_55 : (m : List ℕ) → length m ≡ 55 → pad m ≡ m ++ (128 ∷ be 8 440)
unfolding pad padding
pad_55 m l = rw l

-- ---- the end of a message, as it is prepared in two blocks of zeros

-- the length in bits, as its eight bytes are written
pub length_in_bits : (n : ℕ) → to_be_bytes w64 (n * 8 % 2 ^ 64) ≡ be 8 (8 * n)
unfolding be
length_in_bits n =
    let x = 8 * n in
    let y = n * 8 % 2 ^ 64 in
    let b7 : x / 256 / 256 / 256 / 256 / 256 / 256 / 256 % 256 ≡ y / 256 ^ 7 % 256 = omega arith in
    let b6 : x / 256 / 256 / 256 / 256 / 256 / 256 % 256 ≡ y / 256 ^ 6 % 256 = omega arith in
    let b5 : x / 256 / 256 / 256 / 256 / 256 % 256 ≡ y / 256 ^ 5 % 256 = omega arith in
    let b4 : x / 256 / 256 / 256 / 256 % 256 ≡ y / 256 ^ 4 % 256 = omega arith in
    let b3 : x / 256 / 256 / 256 % 256 ≡ y / 256 ^ 3 % 256 = omega arith in
    let b2 : x / 256 / 256 % 256 ≡ y / 256 ^ 2 % 256 = omega arith in
    let b1 : x / 256 % 256 ≡ y / 256 ^ 1 % 256 = omega arith in
    let b0 : x % 256 ≡ y % 256 = omega arith in
    rw (b7, b6, b5, b4, b3, b2, b1, b0)

ended_cases : (n : ℕ) → ((n < 56) × (ended n ≡ 64)) ⊎ ((56 ≤ n) × (ended n ≡ 128))
unfolding ended
ended_cases n = go (ltb n 56) refl
  where
    go : (b : Bool) → ltb n 56 ≡ b → ((n < 56) × (ended n ≡ 64)) ⊎ ((56 ≤ n) × (ended n ≡ 128))
    go true e = inl (ltb-true n 56 e, ap (λ (c : Bool). cond {A = ℕ} c 64 128) e)
    go false e = inr (ltb-false n 56 e, ap (λ (c : Bool). cond {A = ℕ} c 64 128) e)

-- zeros up to the end's last eight bytes
zeros_are : (n total : ℕ) → n ≡ total % 64 → ended n - 9 - n ≡ (119 - total % 64) % 64
zeros_are n total e = ⊎_elim (λ c. omega arith) (λ c. omega arith) (ended_cases n)

-- n zeros with the tail and the bit 1 at their start
marked_tail : (tail : List ℕ) (n m : ℕ) → n ≡ length tail + suc m
    → set (patch 0 tail (replicate n 0)) (length tail) 128 ≡ tail ++ (128 ∷ replicate m 0)
unfolding patch
marked_tail tail n m e =
    let l : n - (0 + length tail) ≡ suc m = omega arith in
    rw (drop-replicate, l) (set-append_seam tail 0 (replicate m 0) 128)

-- its first bytes
marked-take : (tail : List ℕ) (m i j : ℕ) → i ≡ length tail + suc j → j ≤ m
    → take i (tail ++ (128 ∷ replicate m 0)) ≡ tail ++ (128 ∷ replicate j 0)
marked-take tail m i j e h = rw (e, take-append-add) (ap (λ (l : List ℕ). tail ++ (128 ∷ l)) (take-replicate j m 0 h))

pub padded_tail : (tail b ls : List ℕ) (n total end : ℕ) → n ≡ 128 → length tail ≡ total % 64 → end ≡ ended (length tail)
    → ls ≡ be 8 (8 * total) → b ≡ patch (end - 8) ls (set (patch 0 tail (replicate n 0)) (length tail) 128)
    → take end b ≡ tail ++ padding total
unfolding padding
padded_tail tail b ls n total end s e d q p =
    let r = length tail in
    let base = tail ++ (128 ∷ replicate (127 - r) 0) in
    let at = end - 8 in
    let room : (64 ≤ end) × (end ≤ 128) × (r + 9 ≤ end) = ⊎_elim (λ c. omega arith) (λ c. omega arith) (ended_cases r) in
    let marked = marked_tail tail n (127 - r) (omega arith) in
    let long : length base ≡ 128 = simp (length-append, length-replicate) (omega arith) in
    let eight : length ls ≡ 8 = rw q (length-be 8 _) in
    let whole : b ≡ patch at ls base = p ∙ rw marked in
    let all : end ≡ at + length ls = omega arith in
    let first = marked-take tail (127 - r) at (end - 9 - r) (omega arith) (omega arith) in
    let zeros : end - 9 - r ≡ (119 - total % 64) % 64 = rw d (zeros_are r total e) in
    ap₂ take all whole ∙ take-patch at ls base (omega arith)
    ∙ rw (first, zeros, q) (append_assoc tail (128 ∷ replicate ((119 - total % 64) % 64) 0) (be 8 (8 * total)))
