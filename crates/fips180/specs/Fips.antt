-- SHA-256 as FIPS 180-4 defines it, over numbers and lists. A word is a number below 2 to the 32, a byte one below 256.
use Rattle.std.specs.Prelude.{ℕ, zero, suc, ◌+◌, ◌-◌, ◌*◌, ◌/◌, ◌%◌, ◌^◌, List, [], ◌∷◌, ◌++◌, length, get_or, replicate}
use Rattle.std.specs.Int.Bits.{bit_and, bit_or, bit_xor}
use Rattle.octets.specs.Octets.{be, words, bytes, part}
use Rattle.fips180.specs.Constants.{constants, initial}

-- ---- operations on words (sections 2.2.2, 3.2). Document 01: "Words in SHA-256 are 32 bits and their sums wrap."

unfoldable pub add : ℕ → ℕ → ℕ
add x y = (x + y) % 2 ^ 32

unfoldable pub complement : ℕ → ℕ
complement x = 2 ^ 32 - 1 - x

unfoldable pub shr : ℕ → ℕ → ℕ
shr n x = x / 2 ^ n

unfoldable pub rotr : ℕ → ℕ → ℕ
rotr n x = bit_or (x / 2 ^ n) (x * 2 ^ (32 - n) % 2 ^ 32)

-- ---- the six functions (section 4.1.2)

unfoldable pub ch : ℕ → ℕ → ℕ → ℕ
ch x y z = bit_xor (bit_and x y) (bit_and (complement x) z)

unfoldable pub maj : ℕ → ℕ → ℕ → ℕ
maj x y z = bit_xor (bit_xor (bit_and x y) (bit_and x z)) (bit_and y z)

unfoldable pub big_sigma0 : ℕ → ℕ
big_sigma0 x = bit_xor (bit_xor (rotr 2 x) (rotr 13 x)) (rotr 22 x)

unfoldable pub big_sigma1 : ℕ → ℕ
big_sigma1 x = bit_xor (bit_xor (rotr 6 x) (rotr 11 x)) (rotr 25 x)

unfoldable pub small_sigma0 : ℕ → ℕ
small_sigma0 x = bit_xor (bit_xor (rotr 7 x) (rotr 18 x)) (shr 3 x)

unfoldable pub small_sigma1 : ℕ → ℕ
small_sigma1 x = bit_xor (bit_xor (rotr 17 x) (rotr 19 x)) (shr 10 x)

-- ---- the message schedule (section 6.2.2, step 1)

-- W[t] from the words before it, for t from 16 on
unfoldable pub scheduled : List ℕ → ℕ → ℕ
scheduled w t =
    add (add (add (small_sigma1 (get_or w (t - 2) 0)) (get_or w (t - 7) 0)) (small_sigma0 (get_or w (t - 15) 0))) (get_or w (t - 16) 0)

-- the sixteen words of a block, and t words after them
unfoldable pub schedule : List ℕ → ℕ → List ℕ
schedule m zero = m
schedule m (suc t) = schedule m t ++ (scheduled (schedule m t) (16 + t) ∷ [])

-- ---- the rounds (section 6.2.2, steps 2 and 3); the working variables a to h are a list of eight words

unfoldable pub temp1 : ℕ → ℕ → ℕ → ℕ → ℕ → ℕ → ℕ
temp1 k w e f g h = add (add (add (add h (big_sigma1 e)) (ch e f g)) k) w

unfoldable pub temp2 : ℕ → ℕ → ℕ → ℕ
temp2 a b c = add (big_sigma0 a) (maj a b c)

unfoldable pub round : ℕ → ℕ → List ℕ → List ℕ
round k w s =
    let t1 : ℕ = temp1 k w (get_or s 4 0) (get_or s 5 0) (get_or s 6 0) (get_or s 7 0) in
    let t2 : ℕ = temp2 (get_or s 0 0) (get_or s 1 0) (get_or s 2 0) in
    add t1 t2 ∷ get_or s 0 0 ∷ get_or s 1 0 ∷ get_or s 2 0 ∷ add (get_or s 3 0) t1 ∷ get_or s 4 0 ∷ get_or s 5 0 ∷ get_or s 6 0 ∷ []

-- the working variables after t rounds over the schedule w
unfoldable pub rounds : List ℕ → List ℕ → ℕ → List ℕ
rounds w s zero = s
rounds w s (suc t) = round (get_or constants t 0) (get_or w t 0) (rounds w s t)

-- ---- compression (section 6.2.2): the hash value h after one block, given as its sixteen words

-- step 4: the sum, word by word
unfoldable pub sums : List ℕ → List ℕ → List ℕ
sums h s =
    add (get_or h 0 0) (get_or s 0 0) ∷ add (get_or h 1 0) (get_or s 1 0) ∷ add (get_or h 2 0) (get_or s 2 0) ∷ add (get_or h 3 0) (get_or s 3 0)
    ∷ add (get_or h 4 0) (get_or s 4 0) ∷ add (get_or h 5 0) (get_or s 5 0) ∷ add (get_or h 6 0) (get_or s 6 0) ∷ add (get_or h 7 0) (get_or s 7 0) ∷ []

unfoldable pub compress : List ℕ → List ℕ → List ℕ
compress h m = sums h (rounds (schedule m 48) h 64)

-- ---- padding (section 5.1.1)

-- after n bytes: the bit 1, the fewest zeros that come to 56 bytes modulo 64, and the length in bits as eight bytes
unfoldable pub padding : ℕ → List ℕ
padding n = 128 ∷ replicate ((119 - n % 64) % 64) 0 ++ be 8 (8 * n)

unfoldable pub pad : List ℕ → List ℕ
pad m = m ++ padding (length m)

-- ---- the digest (section 6.2)

-- the hash value after the first t blocks of m
unfoldable pub hashed : List ℕ → List ℕ → ℕ → List ℕ
hashed h m zero = h
hashed h m (suc t) = compress (hashed h m t) (words 16 (part (64 * t) 64 m))

-- the hash value after all whole blocks of m
unfoldable pub absorbed : List ℕ → List ℕ → List ℕ
absorbed h m = hashed h m (length m / 64)

unfoldable pub sha256 : List ℕ → List ℕ
sha256 m = bytes (absorbed initial (pad m))
