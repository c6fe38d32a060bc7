-- Laws over plain values, which the proofs of the code cite.
use Rattle.std.specs.Prelude.{◌≡◌, List, ◌++◌, ℕ, ◌+◌, ◌*◌, ◌/◌, ◌^◌, ◌≤◌, length}
use Rattle.std.proofs.Common.{sym, ap, ◌∙◌, append_assoc, add-one, shr-shr}
use Rattle.octets.specs.Octets.{part, patch, be, word_at}
use Rattle.octets.specs.StringsLaws.{number-part-four}
use Rattle.fips180.specs.Fips.{sha256}
use Rattle.fips180.specs.FipsLaws.{length-sha256}
use Rattle.rfc8554.specs.Ots.{H, width, ots_length, candidate}
use Rattle.rfc8554.specs.Tree.{height, leaf_input, inner_input, d_intr}
use Rattle.rfc8554.specs.Verify.{leaf_of, ots_part, level_up, climbed, root_candidate}
use Rattle.lms.specs.Pieces.{leaf_over, over_children}

-- ---- nodes

-- a hash over the prefix p, which is q
pub sha256_prefix : (p q m n : List ℕ) → p ≡ q → n ≡ sha256 (p ++ m) → n ≡ sha256 (q ++ m)
sha256_prefix p q m n e f = f ∙ rw e

pub length-leaf_over : (I : List ℕ) (q : ℕ) (key : List ℕ) → length (leaf_over I q key) ≡ 32
unfolding leaf_over
length-leaf_over I q key = length-sha256 _

-- the node of a leaf, written to the buffer
pub leaf_put : (I key n tree new : List ℕ) (q : ℕ) → n ≡ H (leaf_input I (1024 + q) key) → new ≡ patch (32 * (1024 + q)) n tree
    → new ≡ patch (32 * (1024 + q)) (leaf_over I q key) tree
unfolding leaf_over
leaf_put I key n tree new q e f = f ∙ rw e

-- two children in one string
pub over-two : (I c left right n : List ℕ) (r : ℕ) → c ≡ left ++ right → n ≡ sha256 (over_children I r c)
    → n ≡ sha256 (inner_input I r left right)
unfolding over_children inner_input
over-two I c left right n r e f = f ∙ rw e (ap sha256 (sym (append_assoc (I ++ be 4 r ++ be 2 d_intr) left right)))

-- ---- the climb

-- half of the node's number is that of its parent
pub half_next : (x r i : ℕ) → x ≡ r / 2 ^ i → x / 2 ≡ r / 2 ^ (i + 1)
half_next x r i e = rw e (shr-shr r i 1)

pub climbed_next : (I signature start tmp beside new : List ℕ) (w n r x i : ℕ) → n ≡ ots_length w → x ≡ r / 2 ^ i
    → tmp ≡ climbed I w r signature start i → beside ≡ part (8 + n + 32 * i) 32 signature → new ≡ level_up I x beside tmp
    → new ≡ climbed I w r signature start (i + 1)
unfolding climbed
climbed_next I signature start tmp beside new w n r x i d e f g k = rw (add-one, ← d, ← e, ← f, ← g) k

-- ---- the root

-- the leaf's value, from the pieces that the code finds
pub leaf_from : (I message signature sig key n : List ℕ) (w len q r : ℕ) → len ≡ ots_length w → sig ≡ part 4 len signature
    → key ≡ candidate I q w message sig → n ≡ H (leaf_input I r key)
    → n ≡ H (leaf_input I r (candidate I q w message (ots_part w signature)))
leaf_from I message signature sig key n w len q r d e f g = g ∙ rw (f, e, d)

-- the root, from the pieces that the code finds
pub root_from : (I message signature start n : List ℕ) (lms ots h w q m : ℕ) → h ≡ height lms → w ≡ width ots
    → 4 ≤ length signature → q ≡ word_at signature 0 → m ≡ 2 ^ height lms
    → start ≡ H (leaf_input I (m + q) (candidate I q w message (ots_part w signature)))
    → n ≡ climbed I w (m + q) signature start h → n ≡ root_candidate (height lms) (width ots) I message signature
unfolding root_candidate
root_from I message signature start n lms ots h w q m a b l e f g k =
    let leaf : leaf_of signature ≡ q = number-part-four 0 signature l ∙ sym e in
    k ∙ rw (g, leaf, ← f, ← a, ← b)
