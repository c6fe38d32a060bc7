-- A chain step is one compression of a prepared block.
use Rattle.std.specs.Prelude.{◌≡◌, refl, List, [], ◌∷◌, ◌++◌, ℕ, ◌+◌, ◌*◌, ◌/◌, ◌%◌, ◌<◌, length, get_or}
use Rattle.std.proofs.Common.{sym, ap, ap₂, ◌∙◌, append_assoc, add-one, arith, take_all}
use Rattle.octets.specs.Octets.{be, words, bytes}
use Rattle.octets.specs.OctetsLaws.{as_four, as_eight, be-four, length-bytes, bytes_append}
use Rattle.fips180.specs.Constants.{initial}
use Rattle.fips180.specs.Fips.{compress, pad, sha256}
use Rattle.fips180.specs.Pieces.{one_block}
use Rattle.fips180.specs.FipsLaws.{one-block, pad_55}
use Rattle.rfc8554.specs.Ots.{chain_input, chain}
use Rattle.rfc8554.specs.OtsLaws.{length-chain_input}
use Rattle.lmots_chains.specs.Pieces.{across}
use Rattle.lmots_chains.specs.WordLaws.{words-bytes}

-- ---- the prepared block of a chain step

-- the bytes of a word that takes three from one word and one from the next
be-across : (a b : ℕ) → be 4 (across a b) ≡ a / 65536 % 256 ∷ a / 256 % 256 ∷ a % 256 ∷ b / 16777216 % 256 ∷ []
unfolding across
be-across a b =
    let x = a % 16777216 * 256 + b / 16777216 % 256 in
    let p : x / 16777216 % 256 ≡ a / 65536 % 256 = omega arith in
    let q : x / 65536 % 256 ≡ a / 256 % 256 = omega arith in
    let r : x / 256 % 256 ≡ a % 256 = omega arith in
    let s : x % 256 ≡ b / 16777216 % 256 = omega arith in
    rw (be-four, p, q, r, s)

-- the words of a value after its first, a, moved by one byte, up to the bit 1
slid : ℕ → List ℕ → List ℕ
slid a [] = across a 2147483648 ∷ []
slid a (b ∷ bs) = across a b ∷ slid b bs

slid-bytes : (a : ℕ) (bs : List ℕ) → a / 16777216 % 256 ∷ bytes (slid a bs) ≡ bytes (a ∷ bs) ++ (128 ∷ [])
unfolding slid bytes
slid-bytes a [] = rw (be-across, be-four)
slid-bytes a (b ∷ bs) =
    rw (be-across, be-four a)
    (ap (λ (l : List ℕ). a / 16777216 % 256 ∷ a / 65536 % 256 ∷ a / 256 % 256 ∷ a % 256 ∷ l) (slid-bytes b bs))

-- the word of chain number, place and a value's first byte
be-place : (i j x : ℕ) → i < 65536 → j < 256 → be 4 (i * 65536 + j * 256 + x % 256) ≡ be 2 i ++ be 1 j ++ (x % 256 ∷ [])
unfolding be
be-place i j x hi hj =
    let y = i * 65536 + j * 256 + x % 256 in
    let p : y / 256 / 256 / 256 % 256 ≡ i / 256 % 256 = omega arith in
    let q : y / 256 / 256 % 256 ≡ i % 256 = omega arith in
    let r : y / 256 % 256 ≡ j % 256 = omega arith in
    let s : y % 256 ≡ x % 256 = omega arith in
    rw (p, q, r, s)

-- the padding's last words
length-word : be 8 440 ≡ bytes (0 ∷ 440 ∷ [])
unfolding be bytes
length-word = refl

-- 55 bytes, padded: identifier, leaf number, chain number and place, then the value, moved by one byte
slid-block : (I bs : List ℕ) (q i j a : ℕ) → i < 65536 → j < 256 → length I ≡ 4 → length bs ≡ 7
    → bytes (I ++ (q ∷ (i * 65536 + j * 256 + a / 16777216 % 256) ∷ slid a bs ++ (0 ∷ 440 ∷ [])))
    ≡ pad (chain_input (bytes I) q i j (bytes (a ∷ bs)))
unfolding chain_input bytes
slid-block I bs q i j a hi hj lI lb =
    let lh : length (bytes (a ∷ bs)) ≡ 32 = length-bytes (a ∷ bs) ∙ omega arith in
    let lI' : length (bytes I) ≡ 16 = length-bytes I ∙ omega arith in
    let m = chain_input (bytes I) q i j (bytes (a ∷ bs)) in
    let padded : pad m ≡ m ++ (128 ∷ be 8 440) = pad_55 m (length-chain_input (bytes I) lI' q i j (bytes (a ∷ bs)) lh) in
    let tail : bytes (slid a bs ++ (0 ∷ 440 ∷ [])) ≡ bytes (slid a bs) ++ be 8 440 = bytes_append (slid a bs) (0 ∷ 440 ∷ []) ∙ ap (λ (l : List ℕ). bytes (slid a bs) ++ l) (sym length-word) in
    let late : a / 16777216 % 256 ∷ (bytes (slid a bs) ++ be 8 440) ≡ be 4 a ++ (bytes bs ++ (128 ∷ be 8 440)) =
    ap (λ (l : List ℕ). l ++ be 8 440) (slid-bytes a bs) ∙ simp append_assoc in
    bytes_append I (q ∷ (i * 65536 + j * 256 + a / 16777216 % 256) ∷ slid a bs ++ (0 ∷ 440 ∷ []))
    ∙ rw (tail, be-place i j (a / 16777216) hi hj, padded) (simp (append_assoc, late))

-- the same, as the code lists it
pub block-padded : (id tmp : List ℕ) (q i j x1 x2 x3 x4 x5 x6 x7 : ℕ) → length id ≡ 4 → length tmp ≡ 8 → i < 65536 → j < 256
    → x1 ≡ across (get_or tmp 0 0) (get_or tmp 1 0)
    → x2 ≡ across (get_or tmp 1 0) (get_or tmp 2 0)
    → x3 ≡ across (get_or tmp 2 0) (get_or tmp 3 0)
    → x4 ≡ across (get_or tmp 3 0) (get_or tmp 4 0)
    → x5 ≡ across (get_or tmp 4 0) (get_or tmp 5 0)
    → x6 ≡ across (get_or tmp 5 0) (get_or tmp 6 0)
    → x7 ≡ across (get_or tmp 6 0) (get_or tmp 7 0)
    → bytes (get_or id 0 0 ∷ get_or id 1 0 ∷ get_or id 2 0 ∷ get_or id 3 0 ∷ q ∷ (i * 65536 + j * 256 + get_or tmp 0 0 / 16777216 % 256)
    ∷ x1 ∷ x2 ∷ x3 ∷ x4 ∷ x5 ∷ x6 ∷ x7 ∷ (get_or tmp 7 0 % 16777216 * 256 + 128) ∷ 0 ∷ 440 ∷ [])
    ≡ pad (chain_input (bytes id) q i j (bytes tmp))
unfolding slid across
block-padded id tmp q i j x1 x2 x3 x4 x5 x6 x7 li lt hi hj e1 e2 e3 e4 e5 e6 e7 =
    rw (e1, e2, e3, e4, e5, e6, e7)
    (slid-block (get_or id 0 0 ∷ get_or id 1 0 ∷ get_or id 2 0 ∷ get_or id 3 0 ∷ [])
    (get_or tmp 1 0 ∷ get_or tmp 2 0 ∷ get_or tmp 3 0 ∷ get_or tmp 4 0 ∷ get_or tmp 5 0 ∷ get_or tmp 6 0 ∷ get_or tmp 7 0 ∷ [])
    q i j (get_or tmp 0 0) hi hj refl refl
    ∙ ap₂ (λ (l m : List ℕ). pad (chain_input (bytes l) q i j (bytes m))) (as_four id li) (as_eight tmp lt))

-- one compression hashes a message that one padded block holds
pub compress-one-block : (m h r x : List ℕ) → length m ≡ 16 → ((i : ℕ) → get_or m i 0 < 4294967296) → h ≡ initial → bytes m ≡ pad x
    → r ≡ compress h m → bytes r ≡ sha256 x
unfolding one_block
compress-one-block m h r x l b e p q =
    let n : length (pad x) ≡ 64 = ap length (sym p) ∙ length-bytes m ∙ omega arith in
    let w : words 16 (pad x) ≡ m = ap (words 16) (sym p) ∙ words-bytes m 16 (omega arith) b ∙ take_all 16 m (omega arith) in
    ap bytes (q ∙ ap₂ compress e (sym w)) ∙ one-block x (pad x) n refl

-- ---- chains

pub chain_next : (I tmp h r : List ℕ) (q i from t : ℕ) → bytes h ≡ chain I q i from t tmp
    → bytes r ≡ sha256 (chain_input I q i (from + t) (bytes h)) → bytes r ≡ chain I q i from (t + 1) tmp
unfolding chain
chain_next I tmp h r q i from t e p = rw (add-one, ← e) p
