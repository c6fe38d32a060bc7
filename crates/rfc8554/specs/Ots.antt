-- LM-OTS as RFC 8554 defines it, over SHA-256 with n = 32. Byte strings are lists of numbers below 256; I is the 16-byte
-- key identifier, q the leaf number, w the width, C the randomizer.
use Rattle.std.specs.Prelude.{ℕ, zero, suc, ◌+◌, ◌-◌, ◌*◌, ◌/◌, ◌%◌, ◌^◌, Bool, not, cond, ◌||◌, List, ◌++◌, eqb, ltb, length, get_or}
use Rattle.std.specs.Int.Bits.{bit_and}
use Rattle.octets.specs.Octets.{part, be, number}
use Rattle.fips180.specs.Fips.{sha256}
use Rattle.octets.specs.Strings.{joined}

-- ---- notation (section 3)

abbrev pub H : List ℕ → List ℕ
H m = sha256 m

abbrev pub u8str : ℕ → List ℕ
u8str x = be 1 x

abbrev pub u16str : ℕ → List ℕ
u16str x = be 2 x

abbrev pub u32str : ℕ → List ℕ
u32str x = be 4 x

-- strTou32 of the four bytes from index `at`
abbrev pub u32_at : ℕ → List ℕ → ℕ
u32_at at xs = number (part at 4 xs)

-- section 3.1.3: the i-th digit of w bits of the byte string S
unfoldable pub coef : ℕ → List ℕ → ℕ → ℕ
coef w S i = bit_and (2 ^ w - 1) (get_or S (i * w / 8) 0 / 2 ^ (8 - (w * (i % (8 / w)) + w)))

-- the domain separators D_PBLC and D_MESG
abbrev pub d_pblc : ℕ
d_pblc = 0x8080

abbrev pub d_mesg : ℕ
d_mesg = 0x8181

-- ---- parameters (section 4.1, Table 1): type 3 has w = 4, u = 64, p = 67, ls = 4; type 4 has w = 8, u = 32, p = 34, ls = 0

unfoldable pub known_ots : ℕ → Bool
known_ots type = eqb type 3 || eqb type 4

unfoldable pub width : ℕ → ℕ
width type = cond (eqb type 3) 4 8

-- u, the digits of a digest
unfoldable pub digits : ℕ → ℕ
digits w = cond (eqb w 4) 64 32

-- p, the digits of a digest and of its checksum, each with a chain
unfoldable pub chains : ℕ → ℕ
chains w = cond (eqb w 4) 67 34

-- ls, the left shift of the checksum
unfoldable pub left_shift : ℕ → ℕ
left_shift w = cond (eqb w 4) 4 0

-- the length of an LM-OTS signature
unfoldable pub ots_length : ℕ → ℕ
ots_length w = 4 + 32 * (chains w + 1)

-- ---- chains

-- the 55 bytes that are hashed at place j of chain i
unfoldable pub chain_input : List ℕ → ℕ → ℕ → ℕ → List ℕ → List ℕ
chain_input I q i j tmp = I ++ u32str q ++ u16str i ++ u8str j ++ tmp

-- the value of chain i after c steps from place a, where it was tmp
unfoldable pub chain : List ℕ → ℕ → ℕ → ℕ → ℕ → List ℕ → List ℕ
chain I q i a zero tmp = tmp
chain I q i a (suc c) tmp = H (chain_input I q i (a + c) (chain I q i a c tmp))

-- Appendix A: x_q[i], the start of chain i, from the seed
unfoldable pub start : List ℕ → ℕ → List ℕ → ℕ → List ℕ
start I q seed i = H (chain_input I q i 0xff seed)

-- ---- public key (section 4.3, Algorithm 1)

-- the hash input of K, over the ends of the chains
unfoldable pub key_input : List ℕ → ℕ → List ℕ → List ℕ
key_input I q ends = I ++ u32str q ++ u16str d_pblc ++ ends

-- y[i], the end of chain i: from x[i], 2^w - 1 steps
unfoldable pub chain_end : List ℕ → ℕ → ℕ → List ℕ → ℕ → List ℕ
chain_end I q w seed i = chain I q i 0 (2 ^ w - 1) (start I q seed i)

-- K
unfoldable pub ots_key : List ℕ → ℕ → ℕ → List ℕ → List ℕ
ots_key I q w seed = H (key_input I q (joined (chain_end I q w seed) (chains w)))

-- ---- checksum (section 4.4, Algorithm 2)

-- the sum over the first n digits
unfoldable pub sum : ℕ → List ℕ → ℕ → ℕ
sum w S zero = 0
sum w S (suc n) = sum w S n + (2 ^ w - 1 - coef w S n)

-- Cksm(S)
unfoldable pub checksum : ℕ → List ℕ → ℕ
checksum w S = sum w S (digits w) * 2 ^ left_shift w

-- Q || Cksm(Q), whose first p digits go to the chains
unfoldable pub with_checksum : ℕ → List ℕ → List ℕ
with_checksum w Q = Q ++ u16str (checksum w Q)

-- ---- signature (section 4.5, Algorithm 3)

-- the hash input of Q
unfoldable pub message_input : List ℕ → ℕ → List ℕ → List ℕ → List ℕ
message_input I q C message = I ++ u32str q ++ u16str d_mesg ++ C ++ message

-- Q || Cksm(Q) of a message
unfoldable pub digested : List ℕ → ℕ → ℕ → List ℕ → List ℕ → List ℕ
digested I q w C message = with_checksum w (H (message_input I q C message))

-- y[i] for the digits of S: from x[i], as many steps as digit i says
unfoldable pub signed : List ℕ → ℕ → ℕ → List ℕ → List ℕ → ℕ → List ℕ
signed I q w seed S i = chain I q i 0 (coef w S i) (start I q seed i)

unfoldable pub ots_signature : ℕ → List ℕ → ℕ → List ℕ → List ℕ → List ℕ → List ℕ
ots_signature type I q seed C message =
    u32str type
    ++ C
    ++ joined (signed I q (width type) seed (digested I q (width type) C message)) (chains (width type))

-- ---- candidate key (section 4.6, Algorithm 4b)

-- the algorithm's rejections, in its order: too short for a type, another type, another length
unfoldable pub ots_invalid : ℕ → List ℕ → Bool
ots_invalid type signature =
    ltb (length signature) 4
    || not (eqb (u32_at 0 signature) type)
    || not (eqb (length signature) (ots_length (width type)))

-- z[i] for the digits of S: from y[i], at the place that digit i says, the steps that are left
unfoldable pub completed : List ℕ → ℕ → ℕ → List ℕ → List ℕ → ℕ → List ℕ
completed I q w S signature i =
    chain I q i (coef w S i) (2 ^ w - 1 - coef w S i) (part (36 + 32 * i) 32 signature)

-- Kc
unfoldable pub candidate : List ℕ → ℕ → ℕ → List ℕ → List ℕ → List ℕ
candidate I q w message signature =
    H (key_input I q (joined (completed I q w (digested I q w (part 4 32 signature) message) signature) (chains w)))
