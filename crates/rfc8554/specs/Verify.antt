-- LMS verification (RFC 8554, section 5.4.2), for a key, a message and a signature of any bytes.
use Rattle.std.specs.Prelude.{ℕ, zero, suc, ◌+◌, ◌*◌, ◌/◌, ◌%◌, ◌^◌, Bool, not, cond, ◌&&◌, ◌||◌, List, eqb, leb, ltb, length}
use Rattle.octets.specs.Octets.{part}
use Rattle.octets.specs.Strings.{same}
use Rattle.rfc8554.specs.Ots.{H, u32_at, known_ots, width, ots_length, ots_invalid, candidate}
use Rattle.rfc8554.specs.Tree.{known_lms, height, leaf_input, inner_input}

-- ---- the fields of a public key

abbrev pub lms_type_of : List ℕ → ℕ
lms_type_of key = u32_at 0 key

abbrev pub ots_type_of : List ℕ → ℕ
ots_type_of key = u32_at 4 key

abbrev pub identifier_of : List ℕ → List ℕ
identifier_of key = part 8 16 key

abbrev pub root_of : List ℕ → List ℕ
root_of key = part 24 32 key

-- ---- the fields of a signature: q, the LM-OTS signature, the LMS type, the path

abbrev pub leaf_of : List ℕ → ℕ
leaf_of signature = u32_at 0 signature

abbrev pub ots_part : ℕ → List ℕ → List ℕ
ots_part w signature = part 4 (ots_length w) signature

abbrev pub sig_type_of : ℕ → List ℕ → ℕ
sig_type_of w signature = u32_at (4 + ots_length w) signature

abbrev pub path_at : ℕ → List ℕ → ℕ → List ℕ
path_at w signature i = part (8 + ots_length w + 32 * i) 32 signature

unfoldable pub signature_length : ℕ → ℕ → ℕ
signature_length h w = 8 + ots_length w + 32 * h

-- ---- Algorithm 6a

-- its rejections, in its order: too short for an LM-OTS type, another one than the key's, too short for an LMS type,
-- another one than the key's, a leaf beyond the tree or another length, and what Algorithm 4b rejects
unfoldable pub signature_invalid : ℕ → ℕ → List ℕ → Bool
signature_invalid lms_type ots_type signature =
    ltb (length signature) 8
    || not (eqb (u32_at 4 signature) ots_type)
    || ltb (length signature) (8 + ots_length (width ots_type))
    || not (eqb (sig_type_of (width ots_type) signature) lms_type)
    || leb (2 ^ height lms_type) (leaf_of signature)
    || not (eqb (length signature) (signature_length (height lms_type) (width ots_type)))
    || ots_invalid ots_type (ots_part (width ots_type) signature)

-- one level up from the node r: tmp is hashed with the node beside it, which is the left one where r is odd
unfoldable pub level_up : List ℕ → ℕ → List ℕ → List ℕ → List ℕ
level_up I r beside tmp =
    cond (eqb (r % 2) 1) (H (inner_input I (r / 2) beside tmp)) (H (inner_input I (r / 2) tmp beside))

-- tmp n levels up from the leaf r
unfoldable pub climbed : List ℕ → ℕ → ℕ → List ℕ → List ℕ → ℕ → List ℕ
climbed I w r signature tmp zero = tmp
climbed I w r signature tmp (suc n) = level_up I (r / 2 ^ n) (path_at w signature n) (climbed I w r signature tmp n)

-- Tc, h levels up
unfoldable pub root_candidate : ℕ → ℕ → List ℕ → List ℕ → List ℕ → List ℕ
root_candidate h w I message signature =
    let r = 2 ^ h + leaf_of signature in
    climbed I w r signature (H (leaf_input I r (candidate I (leaf_of signature) w message (ots_part w signature)))) h

-- ---- Algorithm 6

-- its rejections of a key, in its order: too short for its types, a type that is not known, another length than 24 + m
unfoldable pub key_invalid : List ℕ → Bool
key_invalid key =
    ltb (length key) 8
    || not (known_lms (lms_type_of key))
    || not (known_ots (ots_type_of key))
    || not (eqb (length key) 56)

-- VALID
unfoldable pub valid : List ℕ → List ℕ → List ℕ → Bool
valid key message signature =
    not (key_invalid key)
    && not (signature_invalid (lms_type_of key) (ots_type_of key) signature)
    && same (root_candidate (height (lms_type_of key)) (width (ots_type_of key)) (identifier_of key) message signature) (root_of key)
