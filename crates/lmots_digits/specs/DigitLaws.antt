-- Digits, the checksum, and the digits of a message.
use Rattle.std.specs.Prelude.{◌≡◌, List, ◌++◌, ℕ, ◌+◌, ◌-◌, ◌*◌, ◌/◌, ◌%◌, ◌^◌, ◌≤◌, ◌<◌, length, take, drop, get_or}
use Rattle.std.proofs.Common.{sym, ◌∙◌, add-one, arith}
use Rattle.octets.specs.Octets.{be}
use Rattle.fips180.specs.Fips.{sha256}
use Rattle.rfc8554.specs.Ots.{coef, digits, chains, left_shift, d_mesg, sum, checksum, with_checksum, message_input, digested}
use Rattle.rfc8554.specs.OtsLaws.{coef-eight, coef-four-high, coef-four-low}
use Rattle.lmots_digits.specs.Pieces.{front}
use Rattle.lmots_digits.specs.WriteLaws.{two-written}
use Rattle.lmots_digits.specs.declared.width.Width.{Width}
use Rattle.lmots_digits.specs.declared.width.Width.TheVariants as width
use Rattle.lmots_digits.specs.Width.{bits_of}

-- ---- digits

pub digit-eight : (i r : ℕ) (S : List ℕ) → r ≡ get_or S i 0 → r < 256 → (r ≡ coef 8 S i) × (r ≤ 2 ^ 8 - 1)
digit-eight i r S p h = rw p (sym (coef-eight S i (rw p at h)), omega arith)

pub digit-high : (i b : ℕ) (S : List ℕ) → b ≡ get_or S (i / 2) 0 → b < 256 → i % 2 ≡ 0 → (b / 16 ≡ coef 4 S i) × (b / 16 ≤ 2 ^ 4 - 1)
digit-high i b S p h k = rw p (sym (coef-four-high S i k (rw p at h)), omega arith)

pub digit_low : (i b : ℕ) (S : List ℕ) → b ≡ get_or S (i / 2) 0 → i % 2 ≡ 1 → (b % 16 ≡ coef 4 S i) × (b % 16 ≤ 2 ^ 4 - 1)
digit_low i b S p k = rw p (sym (coef-four-low S i k), omega arith)

-- a digest's digits are in its 32 bytes, and the chains' digits in 34
pub digest_place : (w : Width) (i : ℕ) → i < digits (bits_of w) → i * bits_of w / 8 < 32
unfolding digits
digest_place width.Four i h = omega arith
digest_place width.Eight i h = omega arith

pub chain-place : (w : Width) (i : ℕ) → i < chains (bits_of w) → i * bits_of w / 8 < 34
unfolding chains
chain-place width.Four i h = omega arith
chain-place width.Eight i h = omega arith

-- ---- checksum

pub sum_next : (w top x s i : ℕ) (S : List ℕ) → s ≡ sum w S i → top ≡ 2 ^ w - 1 → x ≡ coef w S i → s + (top - x) ≡ sum w S (i + 1)
unfolding sum
sum_next w top x s i S e p q = rw (add-one, e, p, q)

-- the sum over all digits, shifted in 32 bits
pub checksum-shifted : (w : Width) (s i n : ℕ) (S : List ℕ) → i ≡ digits (bits_of w) → s ≡ sum (bits_of w) S i → s ≤ 255 * i → n ≡ left_shift (bits_of w)
    → s * 2 ^ n % 4294967296 ≡ checksum (bits_of w) S
unfolding checksum digits left_shift
checksum-shifted width.Four s i n S e p h k = let few : s * 16 < 4294967296 = omega arith in rw (k, ← e, ← p) (omega arith)
checksum-shifted width.Eight s i n S e p h k = let few : s < 4294967296 = omega arith in rw (k, ← e, ← p) (omega arith)

pub checksum-written : (w x : ℕ) (Q q ds vs : List ℕ) → length q ≡ 32 → length ds ≡ 2 → q ≡ Q → vs ≡ be 2 x → x ≡ checksum w Q
    → take 32 (q ++ ds) ++ (vs ++ drop 2 (drop 32 (q ++ ds))) ≡ with_checksum w Q
unfolding with_checksum
checksum-written w x Q q ds vs l m e f p = two-written 32 2 q ds vs (be 2 x) l m f ∙ rw (e, p)

-- a message's digits, by its hash
pub digested_by : (I C message a Q r : List ℕ) (q w : ℕ) → a ≡ front I q d_mesg ++ C → Q ≡ sha256 (a ++ message) → r ≡ with_checksum w Q
    → r ≡ digested I q w C message
unfolding digested message_input front
digested_by I C message a Q r q w e p k = k ∙ rw (p, e)
