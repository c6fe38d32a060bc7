-- The LMS tree, its buffer, public key and signature (RFC 8554, sections 5.1 to 5.4), m = 32. Nodes are numbered from 1,
-- the root; the children of r are 2 r and 2 r + 1; leaf q of a tree of height h is 2^h + q.
use Rattle.std.specs.Prelude.{ℕ, zero, suc, ◌+◌, ◌-◌, ◌*◌, ◌/◌, ◌%◌, ◌^◌, Bool, cond, ◌||◌, List, ◌++◌, eqb, leb}
use Rattle.octets.specs.Octets.{part, patch}
use Rattle.octets.specs.Strings.{joined}
use Rattle.rfc8554.specs.Ots.{H, u16str, u32str, width, ots_key, ots_signature}

-- ---- parameters (section 5.1, Table 2): type 5 has h = 5, type 6 has h = 10

unfoldable pub known_lms : ℕ → Bool
known_lms type = eqb type 5 || eqb type 6

unfoldable pub height : ℕ → ℕ
height type = cond (eqb type 5) 5 10

-- ---- nodes (section 5.3)

-- the domain separators D_LEAF and D_INTR
abbrev pub d_leaf : ℕ
d_leaf = 0x8282

abbrev pub d_intr : ℕ
d_intr = 0x8383

-- the 54 bytes that are hashed at the leaf r, over its LM-OTS key K
unfoldable pub leaf_input : List ℕ → ℕ → List ℕ → List ℕ
leaf_input I r K = I ++ u32str r ++ u16str d_leaf ++ K

-- the 86 bytes that are hashed at the inner node r, over its children
unfoldable pub inner_input : List ℕ → ℕ → List ℕ → List ℕ → List ℕ
inner_input I r left right = I ++ u32str r ++ u16str d_intr ++ left ++ right

-- the node r, which is a leaf or has leaves at most d levels below it
unfoldable pub node : ℕ → ℕ → List ℕ → List ℕ → ℕ → ℕ → List ℕ
node h w I seed zero r = H (leaf_input I r (ots_key I (r - 2 ^ h) w seed))
node h w I seed (suc d) r =
    cond (leb (2 ^ h) r) (H (leaf_input I r (ots_key I (r - 2 ^ h) w seed)))
    (H (inner_input I r (node h w I seed d (2 * r)) (node h w I seed d (2 * r + 1))))

-- T[r] of the tree of height h, for r from 1: a leaf where r ≥ 2^h (`T-leaf` of `TreeLaws`), else inner (`T_inner`)
unfoldable pub T : ℕ → ℕ → List ℕ → List ℕ → ℕ → List ℕ
T h w I seed r = node h w I seed h r

unfoldable pub public_key : ℕ → ℕ → List ℕ → List ℕ → List ℕ
public_key lms_type ots_type I seed = u32str lms_type ++ u32str ots_type ++ I ++ T (height lms_type) (width ots_type) I seed 1

-- ---- the tree's buffer (document 01): "node r at byte 32 × r; bytes 0 to 31 keep what they held"

-- T[r] || .. || T[r + n - 1]
unfoldable pub nodes : ℕ → ℕ → List ℕ → List ℕ → ℕ → ℕ → List ℕ
nodes h w I seed r n = joined (λ i. T h w I seed (r + i)) n

-- the buffer of 65,536 bytes once the key maker has filled it, for types 6 and 4
unfoldable pub tree_filled : List ℕ → List ℕ → List ℕ → List ℕ
tree_filled I seed before = patch 32 (nodes 10 8 I seed 1 2047) before

-- ---- signature (section 5.4.1), with the path read from a tree's buffer

-- r XOR 1
unfoldable pub sibling : ℕ → ℕ
sibling r = cond (eqb (r % 2) 0) (r + 1) (r - 1)

-- path[i] from the leaf r up: the node beside r / 2^i
unfoldable pub path : List ℕ → ℕ → ℕ → List ℕ
path tree r i = part (32 * sibling (r / 2 ^ i)) 32 tree

unfoldable pub lms_signature : ℕ → ℕ → List ℕ → ℕ → List ℕ → List ℕ → List ℕ → List ℕ → List ℕ
lms_signature lms_type ots_type I q seed C message tree =
    u32str q
    ++ ots_signature ots_type I q seed C message
    ++ u32str lms_type
    ++ joined (path tree (2 ^ height lms_type + q)) (height lms_type)
