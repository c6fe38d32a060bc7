-- Sixteen lanes in rows: row r of a list is its sixteen words from 16 * r on, one for each lane, so that lane l has the words
-- at l, 16 + l, 32 + l and so on.
use Rattle.std.specs.Prelude.{◌≡◌, ◌⊎◌, List, [], ◌∷◌, ◌++◌, ℕ, zero, suc, ◌+◌, ◌-◌, ◌*◌, ◌≤◌, ◌<◌, length, get_or, set}
use Rattle.std.specs.Int.Bits.{bit_and, bit_xor}
use Rattle.fips180.specs.Constants.{constants}
use Rattle.fips180.specs.Fips as Fips

-- the first n words of lane l
unfoldable pub column : ℕ → ℕ → List ℕ → List ℕ
column l zero xs = []
column l (suc n) xs = column l n xs ++ (get_or xs (16 * n + l) 0 ∷ [])

-- two lists agree up to index n
unfoldable pub Same : ℕ → List ℕ → List ℕ → Type 0
Same n xs ys = (i : ℕ) → i < n → get_or ys i 0 ≡ get_or xs i 0

-- words 0 to 4, 14 and 15 of the blocks z are those of the blocks w
unfoldable pub Alike : List ℕ → List ℕ → Type 0
Alike w z = (i : ℕ) → (i < 80) ⊎ (224 ≤ i) → i < 256 → get_or z i 0 ≡ get_or w i 0

-- n of c words of z from index p on are f's, and n of c from q on are g's; all others are those of s
pub record Two (p q c : ℕ) (f g : ℕ → ℕ) (n : ℕ) (s z : List ℕ) : Type 0 where
  pub long : length z ≡ length s
  pub first : (i : ℕ) → i < n → get_or z (p + i) 0 ≡ f i
  pub second : (i : ℕ) → i < n → get_or z (q + i) 0 ≡ g i
  pub low : (i : ℕ) → i < p → get_or z i 0 ≡ get_or s i 0
  pub mid : (i : ℕ) → p + c ≤ i → i < q → get_or z i 0 ≡ get_or s i 0
  pub high : (i : ℕ) → q + c ≤ i → get_or z i 0 ≡ get_or s i 0

-- ---- the schedule

-- the word at n: its lane's words of the rows 2, 7, 15 and 16 before it
unfoldable pub scheduled_at : List ℕ → ℕ → ℕ
scheduled_at w n =
    Fips.add
    (Fips.add (Fips.add (Fips.small_sigma1 (get_or w (n - 32) 0)) (get_or w (n - 112) 0)) (Fips.small_sigma0 (get_or w (n - 240) 0)))
    (get_or w (n - 256) 0)

-- the share of the words at n and n + 16 in the word at n + 256
unfoldable pub share_at : List ℕ → ℕ → ℕ
share_at w n = Fips.add (Fips.small_sigma0 (get_or w (n + 16) 0)) (get_or w n 0)

-- x has the shares of words 0 to 4, 14 and 15 of the blocks w in words 16 and 17, and in words 18 and 19
pub record Shares (w x : List ℕ) : Type 0 where
  pub first : (n : ℕ) → n < 32 → get_or x n 0 ≡ Fips.add (Fips.small_sigma1 (get_or w (n + 224) 0)) (share_at w n)
  pub second : (n : ℕ) → n < 32 → get_or x (n + 32) 0 ≡ share_at w (n + 32)

-- ---- the rounds: 68 rows of the variable a, 68 of e, and 68 of b xor c, each from its last row to its first. After a round, b is
-- what a was before it, and so on: four rows one after another are a, b, c, d, and four are e, f, g, h

-- the eight words whose a is at index `a` and whose e is at index `e`
unfoldable pub eight : ℕ → ℕ → List ℕ → List ℕ
eight a e s =
    get_or s a 0 ∷ get_or s (a + 16) 0 ∷ get_or s (a + 32) 0 ∷ get_or s (a + 48) 0
    ∷ get_or s e 0 ∷ get_or s (e + 16) 0 ∷ get_or s (e + 32) 0 ∷ get_or s (e + 48) 0 ∷ []

-- the working variables of the lane at n are q
pub record State (q : List ℕ) (n : ℕ) (s : List ℕ) : Type 0 where
  pub words : eight n (n + 1088) s ≡ q
  pub differ : get_or s (n + 2176) 0 ≡ bit_xor (get_or s (n + 16) 0) (get_or s (n + 32) 0)

-- place of the working variables of lane l after t rounds
abbrev pub place : ℕ → ℕ → ℕ
place t l = 16 * (64 - t) + l

unfoldable pub temp1_at : ℕ → ℕ → ℕ → List ℕ → ℕ
temp1_at k x n s = Fips.temp1 k x (get_or s (n + 1104) 0) (get_or s (n + 1120) 0) (get_or s (n + 1136) 0) (get_or s (n + 1152) 0)

-- Maj of a, b and c is b xor ((a xor b) and (b xor c))
unfoldable pub temp2_at : ℕ → List ℕ → ℕ
temp2_at n s =
    Fips.add (Fips.big_sigma0 (get_or s (n + 16) 0))
    (bit_xor (get_or s (n + 32) 0) (bit_and (bit_xor (get_or s (n + 16) 0) (get_or s (n + 32) 0)) (get_or s (n + 2192) 0)))

-- the rows after one round of one lane, from n + 16 to n, with the constant k and the word x
unfoldable pub round_at : ℕ → ℕ → ℕ → List ℕ → List ℕ
round_at k x n s =
    set
    (set (set s (n + 2176) (bit_xor (get_or s (n + 16) 0) (get_or s (n + 32) 0))) (n + 1088) (Fips.add (get_or s (n + 64) 0) (temp1_at k x n s)))
    n
    (Fips.add (temp1_at k x n s) (temp2_at n s))

-- the working variables from index b on stay
unfoldable pub Unchanged : ℕ → List ℕ → List ℕ → Type 0
Unchanged b s r = (q : List ℕ) (m : ℕ) → b ≤ m → m < 1040 → State q m s → State q m r

-- ---- every lane

-- rounds `from` to `to` - 1 with the schedule w
unfoldable pub Rounded : List ℕ → ℕ → ℕ → List ℕ → List ℕ → Type 0
Rounded w from to s r =
    (l : ℕ) (h : List ℕ) → l < 16
    → State (Fips.rounds (column l 64 w) h from) (place from l) s
    → State (Fips.rounds (column l 64 w) h to) (place to l) r

-- round 5 of lane l without its word, from the working variables q: x has its a and e, s its b xor c
pub record Held (q : List ℕ) (l : ℕ) (x s : List ℕ) : Type 0 where
  pub a : get_or x (64 + l) 0 ≡ get_or (Fips.round (get_or constants 5 0) 0 q) 0 0
  pub e : get_or x (80 + l) 0 ≡ get_or (Fips.round (get_or constants 5 0) 0 q) 4 0
  pub differ : get_or s (place 6 l + 2176) 0 ≡ bit_xor (get_or s (place 6 l + 16) 0) (get_or s (place 6 l + 32) 0)

-- round 5 of every lane, with word 5 of the blocks w
unfoldable pub Resumed : List ℕ → List ℕ → List ℕ → List ℕ → Type 0
Resumed w x s r =
    (l : ℕ) (q : List ℕ) → l < 16 → State q (place 5 l) s → Held q l x s → State (Fips.round (get_or constants 5 0) (get_or w (80 + l) 0) q) (place 6 l) r

-- the common start of all blocks that are `Alike` to w, after the hash value h
pub record Common (h w x s : List ℕ) : Type 0 where
  pub shares : Shares w x
  pub start : (l : ℕ) → l < 16 → State h (place 0 l) s
  pub five : (l : ℕ) → l < 16 → State (Fips.rounds (column l 5 w) h 5) (place 5 l) s
  pub held : (l : ℕ) → l < 16 → Held (Fips.rounds (column l 5 w) h 5) l x s

-- compression of the blocks m, after which their common start still stands
unfoldable pub Compressed : List ℕ → List ℕ → List ℕ → List ℕ → List ℕ → List ℕ → Type 0
Compressed m x s w r v =
    (h : List ℕ) → Common h m x s → Common h w x r × ((l : ℕ) → l < 16 → column l 8 v ≡ Fips.compress h (column l 16 m))
