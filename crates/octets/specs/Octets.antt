-- Bytes as lists of numbers below 256: parts of a buffer, a buffer after a write, and numbers as big-endian bytes
-- (document 01: "Integers are big-endian").
use Rattle.std.specs.Prelude.{ℕ, zero, suc, ◌+◌, ◌*◌, ◌/◌, ◌%◌, List, [], ◌∷◌, ◌++◌, length, take, drop, get_or}

-- ---- buffers

-- the n bytes from index `at`
unfoldable pub part : ℕ → ℕ → List ℕ → List ℕ
part at n xs = take n (drop at xs)

-- the buffer xs once ws is written from index `at`: every other byte keeps what it held
unfoldable pub patch : ℕ → List ℕ → List ℕ → List ℕ
patch at ws xs = take at xs ++ (ws ++ drop (at + length ws) xs)

-- ---- numbers

-- the number n as w big-endian bytes (its value modulo 256 to the w)
unfoldable pub be : ℕ → ℕ → List ℕ
be zero n = []
be (suc w) n = be w (n / 256) ++ (n % 256 ∷ [])

-- the number of big-endian bytes, after n for the bytes before them
unfoldable pub number_from : ℕ → List ℕ → ℕ
number_from n [] = n
number_from n (b ∷ bs) = number_from (n * 256 + b) bs

-- the number of big-endian bytes
unfoldable pub number : List ℕ → ℕ
number bs = number_from 0 bs

-- ---- 32-bit words

-- the word of four bytes
abbrev pub word : ℕ → ℕ → ℕ → ℕ → ℕ
word a b c d = a * 16777216 + b * 65536 + c * 256 + d

-- the word at index `at`
abbrev pub word_at : List ℕ → ℕ → ℕ
word_at xs at = word (get_or xs at 0) (get_or xs (at + 1) 0) (get_or xs (at + 2) 0) (get_or xs (at + 3) 0)

-- the first t words of a list of bytes
unfoldable pub words : ℕ → List ℕ → List ℕ
words zero xs = []
words (suc t) xs = words t xs ++ (word_at xs (4 * t) ∷ [])

-- the bytes of a list of words
unfoldable pub bytes : List ℕ → List ℕ
bytes [] = []
bytes (x ∷ xs) = be 4 x ++ bytes xs
