-- The layers below the library's calls, for measurement and comparison: thresholds, round constants, digests, compressions, chains,
-- and a copy of the certificate handed back.
use Rattle.std.specs.Prelude.{ℕ, zero, suc, not, cond, ◌&&◌, ◌||◌, List, [], ◌∷◌, eqb, leb, ltb, length}
use Rattle.octets.specs.Octets.{words, bytes}
use Rattle.quorum.specs.Quorum.{most_seats}
use Rattle.refusal.specs.Refusal.{first_of, unrefused}
use Rattle.octets.specs.Strings.{joined}
use Rattle.fips180.specs.Constants.{constants}
use Rattle.fips180.specs.Fips.{compress, sha256}
use Rattle.rfc8554.specs.Ots.{signed}

-- a threshold of n, and 0 where no fleet has n seats
unfoldable pub of_fleet : (ℕ → ℕ) → ℕ → ℕ
of_fleet f n = cond (leb 1 n && leb n most_seats) (f n) 0

-- an out buffer of less than 64 words' length is refused as 7
unfoldable pub constants_refusal : List ℕ → ℕ
constants_refusal out = first_of ((7, ltb (length out) 256) ∷ [])

unfoldable pub constants_written : List ℕ → List ℕ
constants_written out = unrefused (constants_refusal out) (bytes constants) []

-- an out buffer of less than a digest's length is refused as 7
unfoldable pub digest_refusal : List ℕ → ℕ
digest_refusal out = first_of ((7, ltb (length out) 32) ∷ [])

unfoldable pub digest_written : List ℕ → List ℕ → List ℕ
digest_written message out = unrefused (digest_refusal out) (sha256 message) []

-- and a state of other than 32 bytes, or a block of other than 64, as 9
unfoldable pub compress_refusal : List ℕ → List ℕ → List ℕ → ℕ
compress_refusal state block out =
    first_of ((7, ltb (length out) 32) ∷ (9, not (eqb (length state) 32) || not (eqb (length block) 64)) ∷ [])

-- the hash value h after the same block, count times
unfoldable pub repeated : List ℕ → List ℕ → ℕ → List ℕ
repeated h m zero = h
repeated h m (suc t) = compress (repeated h m t) m

unfoldable pub compress_written : ℕ → List ℕ → List ℕ → List ℕ → List ℕ
compress_written count state block out =
    unrefused (compress_refusal state block out) (bytes (repeated (words 8 state) (words 16 block) count)) []

-- an out buffer too short for the values of a signature is refused as 7, and an identifier, seed or digits of another length as 9
unfoldable pub signed_refusal : List ℕ → List ℕ → List ℕ → List ℕ → ℕ
signed_refusal id seed digits out =
    first_of
    ((7, ltb (length out) 1088)
    ∷ (9, not (eqb (length id) 16) || (not (eqb (length seed) 32) || not (eqb (length digits) 34)))
    ∷ [])

unfoldable pub signed_written : ℕ → List ℕ → List ℕ → List ℕ → List ℕ → List ℕ
signed_written q id seed digits out = unrefused (signed_refusal id seed digits out) (joined (signed id q 8 seed digits) 34) []

-- an out buffer too short for a copy of the certificate handed back is refused as 7
unfoldable pub copy_refusal : List ℕ → List ℕ → ℕ
copy_refusal handed out = first_of ((7, ltb (length out) (length handed)) ∷ [])

unfoldable pub copy_written : List ℕ → List ℕ → List ℕ
copy_written handed out = unrefused (copy_refusal handed out) handed []
