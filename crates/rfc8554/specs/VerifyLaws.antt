-- Laws of verification: the fields of keys and signatures, and the validity of signatures made as in section 5, by
-- Algorithm 6.
use Rattle.std.specs.Prelude.{◌≡◌, Bool, not, ◌&&◌, ◌||◌, List, ◌++◌, ◌⊎◌, leb, eqb}
use Rattle.std.proofs.Math.Path.{refl, ap}
use Rattle.std.proofs.Common.{sym, ◌∙◌, inl, inr, le_refl, div-one, le-div_iff_mul-le, add-one, lit<, length-append, pow_mono, pow_pos, shr-shr}
use Rattle.std.proofs.Math.Bool.{true, false, cond, or-true}
use Rattle.std.proofs.lemmas.Bool.{false≢true}
use Rattle.std.proofs.Math.Logic.{⊎_elim}
use Prim.Native.Nat.{ℕ, zero, suc, ◌+◌, ◌-◌, ◌*◌, ◌/◌, ◌%◌, ◌^◌, ◌≤◌, ◌<◌}
use Rattle.std.proofs.Math.Nat.{add-sub_cancel_left, one-mul}
use native.Mathlib.Omega.{arith}
use Rattle.std.proofs.Math.ListN.{length}
use Rattle.std.proofs.lemmas.Nat.{shr_le}
use Rattle.std.proofs.Math.Pow.{high}
use borrow.Author.Tests.{lt-leb, le-ltb, eq-eqb, eqb-true, leb-false}
use Rattle.octets.specs.Octets.{part, number}
use Rattle.octets.specs.OctetsLaws.{length-be, length_part}
use Rattle.rfc8554.specs.Ots.{H, u32str, u32_at, known_ots, width, ots_length, ots_key, ots_signature, ots_invalid}
use Rattle.rfc8554.specs.Tree.{known_lms, height, leaf_input, inner_input, T, public_key, sibling, path, lms_signature}
use Rattle.rfc8554.specs.Verify.{lms_type_of, ots_type_of, identifier_of, root_of, leaf_of, ots_part, sig_type_of, path_at, signature_length, signature_invalid, level_up, climbed, root_candidate, key_invalid, valid}
use Rattle.octets.specs.StringsLaws.{part_skip, part_left, part-front, part_end, part_between, part-part, number-be, length-joined, part-joined, same_refl}
use Rattle.rfc8554.specs.OtsLaws.{four_le_ots_length, length-ots_signature, type_ots_signature, candidate-ots_signature}
use Rattle.rfc8554.specs.TreeLaws.{T-leaf, T_inner, length-T}

-- ---- the climb

parity : (x : ℕ) → (x % 2 ≡ 0) ⊎ (x % 2 ≡ 1)
parity x = go (x % 2) refl
  where
    go : (m : ℕ) → x % 2 ≡ m → (x % 2 ≡ 0) ⊎ (x % 2 ≡ 1)
    go zero e = inl e
    go (suc zero) e = inr e
    go (suc (suc m)) e = absurd (omega arith)

-- in a tree of 2 P - 1 nodes the node beside one below the root is in the tree
pub sibling-within : (P x : ℕ) → 2 ≤ x → x < 2 * P → (2 ≤ sibling x) × (sibling x < 2 * P)
unfolding sibling
sibling-within P x k l = ⊎_elim (λ (e : x % 2 ≡ 0). rw e (omega arith)) (λ (e : x % 2 ≡ 1). rw e (omega arith)) (parity x)

-- a node less than h levels above a leaf is below the root
pub ancestor_within : (h r n : ℕ) → 2 ^ h ≤ r → r < 2 * 2 ^ h → n < h → (2 ≤ r / 2 ^ n) × (r / 2 ^ n < 2 * 2 ^ h)
ancestor_within h r n k l m =
    ((le-div_iff_mul-le (pow_pos n)).1 (omega (arith, pow_mono m)), omega (arith, shr_le r n))

module _ (h w : ℕ) (I seed : List ℕ) where
  level_up-T : (x : ℕ) → 2 ≤ x → x < 2 * 2 ^ h → level_up I x (T h w I seed (sibling x)) (T h w I seed x) ≡ T h w I seed (x / 2)
  unfolding level_up sibling
  level_up-T x k l =
      ⊎_elim
      (λ (e : x % 2 ≡ 0). rw e (over x (x + 1) (omega arith) (omega arith)))
      (λ (e : x % 2 ≡ 1). rw e (over (x - 1) x (omega arith) (omega arith)))
      (parity x)
    where
      over : (left right : ℕ) → left ≡ 2 * (x / 2) → right ≡ 2 * (x / 2) + 1
          → H (inner_input I (x / 2) (T h w I seed left) (T h w I seed right)) ≡ T h w I seed (x / 2)
      over left right a b = rw (a, b) (sym (T_inner h w I seed (x / 2) (omega arith) (omega arith)))

  -- with the nodes beside it for a path, the leaf r leads to the node r / 2^n, n levels up
  climbed-T : (r : ℕ) (signature : List ℕ) → 2 ^ h ≤ r → r < 2 * 2 ^ h
      → ((i : ℕ) → i < h → path_at w signature i ≡ T h w I seed (sibling (r / 2 ^ i)))
      → (n : ℕ) → n ≤ h → climbed I w r signature (T h w I seed r) n ≡ T h w I seed (r / 2 ^ n)
  unfolding climbed
  climbed-T r signature k l beside zero m = ap (T h w I seed) (sym (div-one r))
  climbed-T r signature k l beside (suc n) m =
      let within = ancestor_within h r n k l m in
      rw (climbed-T r signature k l beside n (omega arith), beside n m)
      (level_up-T (r / 2 ^ n) within.0 within.1
      ∙ ap (T h w I seed) (shr-shr r n 1 ∙ ap (λ (e : ℕ). r / 2 ^ e) (add-one n)))

-- ---- the fields of a key

module _ (lms_type ots_type : ℕ) (I seed : List ℕ) (e : length I ≡ 16) where
  length_types : length (u32str lms_type ++ u32str ots_type) ≡ 8
  length_types = simp (length-append, length-be)

  length_front : length (u32str lms_type ++ u32str ots_type ++ I) ≡ 24
  length_front = rw (length-append, length_types) (omega arith)

  pub length-public_key : length (public_key lms_type ots_type I seed) ≡ 56
  unfolding public_key
  length-public_key = rw (length-append, length_front, length-T)

  pub lms_type_public_key : lms_type < 256 ^ 4 → lms_type_of (public_key lms_type ots_type I seed) ≡ lms_type
  unfolding public_key
  lms_type_public_key h =
      ap number
      (part_left (u32str lms_type ++ u32str ots_type ++ I) _ 0 4 (rw length_front (omega arith))
      ∙ part_left (u32str lms_type ++ u32str ots_type) I 0 4 (rw length_types (omega arith))
      ∙ part-front (u32str lms_type) (u32str ots_type) 4 (length-be 4 lms_type))
      ∙ number-be 4 lms_type h

  pub ots_type_public_key : ots_type < 256 ^ 4 → ots_type_of (public_key lms_type ots_type I seed) ≡ ots_type
  unfolding public_key
  ots_type_public_key h =
      ap number
      (part_left (u32str lms_type ++ u32str ots_type ++ I) _ 4 4 (rw length_front (omega arith))
      ∙ part_between (u32str lms_type) (u32str ots_type) I 4 4 (length-be 4 lms_type) (length-be 4 ots_type))
      ∙ number-be 4 ots_type h

  identifier-public_key : identifier_of (public_key lms_type ots_type I seed) ≡ I
  unfolding public_key
  identifier-public_key = part_between (u32str lms_type ++ u32str ots_type) I _ 8 16 length_types e

  root-public_key : root_of (public_key lms_type ots_type I seed) ≡ T (height lms_type) (width ots_type) I seed 1
  unfolding public_key
  root-public_key = part_end (u32str lms_type ++ u32str ots_type ++ I) _ 24 32 length_front (length-T _ _ I seed 1)

-- ---- the fields of a signature

module _ (lms_type ots_type : ℕ) (I : List ℕ) (q : ℕ) (seed C message tree : List ℕ) (e : length C ≡ 32) where
  length-leaf_ots : length (u32str q ++ ots_signature ots_type I q seed C message) ≡ 4 + ots_length (width ots_type)
  length-leaf_ots = rw (length-append, length-be, length-ots_signature ots_type I q seed C message e)

  length_before_path : length (u32str q ++ ots_signature ots_type I q seed C message ++ u32str lms_type) ≡ 8 + ots_length (width ots_type)
  length_before_path = rw (length-append, length-leaf_ots, length-be) (omega arith)

  pub leaf-lms_signature : q < 256 ^ 4 → leaf_of (lms_signature lms_type ots_type I q seed C message tree) ≡ q
  unfolding lms_signature
  leaf-lms_signature h =
      ap number
      (part_left (u32str q ++ ots_signature ots_type I q seed C message ++ u32str lms_type) _ 0 4 (rw length_before_path (omega arith))
      ∙ part_left (u32str q ++ ots_signature ots_type I q seed C message) (u32str lms_type) 0 4 (rw length-leaf_ots (omega arith))
      ∙ part-front (u32str q) _ 4 (length-be 4 q))
      ∙ number-be 4 q h

  ots_lms_signature : ots_part (width ots_type) (lms_signature lms_type ots_type I q seed C message tree) ≡ ots_signature ots_type I q seed C message
  unfolding lms_signature
  ots_lms_signature =
      part_left (u32str q ++ ots_signature ots_type I q seed C message ++ u32str lms_type) _ 4 (ots_length (width ots_type))
      (rw length_before_path (omega arith))
      ∙ part_between (u32str q) (ots_signature ots_type I q seed C message) (u32str lms_type) 4 (ots_length (width ots_type))
      (length-be 4 q) (length-ots_signature ots_type I q seed C message e)

  sig_type_lms_signature : lms_type < 256 ^ 4 → sig_type_of (width ots_type) (lms_signature lms_type ots_type I q seed C message tree) ≡ lms_type
  unfolding lms_signature
  sig_type_lms_signature h =
      ap number
      (part_between (u32str q ++ ots_signature ots_type I q seed C message) (u32str lms_type) _ (4 + ots_length (width ots_type)) 4
      length-leaf_ots (length-be 4 lms_type))
      ∙ number-be 4 lms_type h

  module _ (each : (i : ℕ) → i < height lms_type → length (path tree (2 ^ height lms_type + q) i) ≡ 32) where
    pub length-lms_signature : length (lms_signature lms_type ots_type I q seed C message tree) ≡ signature_length (height lms_type) (width ots_type)
    unfolding lms_signature signature_length
    length-lms_signature = rw (length-append, length_before_path, length-joined 32 _ _ each)

    path-lms_signature : (i : ℕ) → i < height lms_type
        → path_at (width ots_type) (lms_signature lms_type ots_type I q seed C message tree) i ≡ path tree (2 ^ height lms_type + q) i
    unfolding lms_signature
    path-lms_signature i h =
        part_skip (u32str q ++ ots_signature ots_type I q seed C message ++ u32str lms_type) _ (8 + ots_length (width ots_type)) (32 * i) 32
        length_before_path
        ∙ part-joined 32 _ _ each i h

-- ---- length and leaf of a valid signature: the length of its types, and a leaf of the tree

signature_invalid-fits : (lms_type ots_type : ℕ) (signature : List ℕ) → signature_invalid lms_type ots_type signature ≡ false
    → (length signature ≡ signature_length (height lms_type) (width ots_type)) × (leaf_of signature < 2 ^ height lms_type)
unfolding signature_invalid
signature_invalid-fits lms_type ots_type signature e = (
  size (eqb (length signature) (signature_length (height lms_type) (width ots_type))) refl,
  leaf (leb (2 ^ height lms_type) (leaf_of signature)) refl,
)
  where
    size : (b : Bool) → eqb (length signature) (signature_length (height lms_type) (width ots_type)) ≡ b
        → length signature ≡ signature_length (height lms_type) (width ots_type)
    size true p = eqb-true _ _ p
    size false p = absurd (false≢true (sym (rw (p, or-true) at e)))

    leaf : (b : Bool) → leb (2 ^ height lms_type) (leaf_of signature) ≡ b → leaf_of signature < 2 ^ height lms_type
    leaf true p = absurd (false≢true (sym (rw (p, or-true) at e)))
    leaf false p = leb-false _ _ p

second-false : (a b c : Bool) → (not a && not b && c) ≡ true → b ≡ false
second-false true b c e = absurd (false≢true e)
second-false false true c e = absurd (false≢true e)
second-false false false c e = refl

pub valid-fits : (key message signature : List ℕ) → valid key message signature ≡ true
    → (length signature ≡ signature_length (height (lms_type_of key)) (width (ots_type_of key)))
    × (leaf_of signature < 2 ^ height (lms_type_of key))
unfolding valid
valid-fits key message signature e =
    signature_invalid-fits (lms_type_of key) (ots_type_of key) signature
    (second-false (key_invalid key) (signature_invalid (lms_type_of key) (ots_type_of key) signature) _ e)

-- ---- validity of a signature of section 5

-- Algorithm 4b rejects nothing that Algorithm 6a has let through
pub ots_invalid-inside : (h ots_type : ℕ) (signature : List ℕ)
    → u32_at 4 signature ≡ ots_type → length signature ≡ signature_length h (width ots_type)
    → ots_invalid ots_type (ots_part (width ots_type) signature) ≡ false
unfolding ots_invalid signature_length
ots_invalid-inside h ots_type signature e k =
    let size : length (ots_part (width ots_type) signature) ≡ ots_length (width ots_type) =
    length_part 4 (ots_length (width ots_type)) signature (omega arith) in
    let room : 4 ≤ ots_length (width ots_type) = four_le_ots_length (width ots_type) in
    let type : u32_at 0 (ots_part (width ots_type) signature) ≡ ots_type =
    ap number (part-part 0 4 4 (ots_length (width ots_type)) signature (omega arith)) ∙ e in
    rw (
      size,
      le-ltb (ots_length (width ots_type)) 4 room,
      type,
      eq-eqb ots_type ots_type refl,
      eq-eqb (ots_length (width ots_type)) (ots_length (width ots_type)) refl,
    )

known-below : (t a b bound : ℕ) → (eqb t a || eqb t b) ≡ true → a < bound → b < bound → t < bound
known-below t a b bound e k l = go (eqb t a) refl
  where
    go : (c : Bool) → eqb t a ≡ c → t < bound
    go true p = omega (arith, eqb-true t a p)
    go false p = omega (arith, eqb-true t b (rw p at e))

module _ (lms_type ots_type : ℕ) (I seed : List ℕ) (known_l : known_lms lms_type ≡ true) (known_o : known_ots ots_type ≡ true) (e : length I ≡ 16) where
  lms_below : lms_type < 256 ^ 4
  unfolding known_lms
  lms_below = known-below lms_type 5 6 (256 ^ 4) known_l (lit< tt) (lit< tt)

  ots_below : ots_type < 256 ^ 4
  unfolding known_ots
  ots_below = known-below ots_type 3 4 (256 ^ 4) known_o (lit< tt) (lit< tt)

  pub key_invalid-public_key : key_invalid (public_key lms_type ots_type I seed) ≡ false
  unfolding key_invalid
  key_invalid-public_key =
      rw (
        length-public_key lms_type ots_type I seed e,
        lms_type_public_key lms_type ots_type I seed e lms_below,
        ots_type_public_key lms_type ots_type I seed e ots_below,
        known_l,
        known_o,
      )

  -- a signature whose path comes from a buffer that holds the tree
  module _ (q : ℕ) (C message tree : List ℕ) (c : length C ≡ 32) (below : q < 2 ^ height lms_type)
      (holds : (r : ℕ) → 2 ≤ r → r < 2 * 2 ^ height lms_type → part (32 * r) 32 tree ≡ T (height lms_type) (width ots_type) I seed r) where
    q_below : q < 256 ^ 4
    unfolding height
    q_below = go (eqb lms_type 5) below
      where
        go : (b : Bool) → q < 2 ^ cond b 5 10 → q < 256 ^ 4
        go true l = omega arith
        go false l = omega arith

    path-T : (i : ℕ) → i < height lms_type
        → path tree (2 ^ height lms_type + q) i ≡ T (height lms_type) (width ots_type) I seed (sibling ((2 ^ height lms_type + q) / 2 ^ i))
    unfolding path
    path-T i h =
        let within = ancestor_within (height lms_type) (2 ^ height lms_type + q) i (omega arith) (omega arith) h in
        let beside = sibling-within (2 ^ height lms_type) _ within.0 within.1 in
        holds _ beside.0 beside.1

    length-path : (i : ℕ) → i < height lms_type → length (path tree (2 ^ height lms_type + q) i) ≡ 32
    length-path i h = rw (path-T i h) (length-T (height lms_type) (width ots_type) I seed _)

    signature_invalid-lms_signature : signature_invalid lms_type ots_type (lms_signature lms_type ots_type I q seed C message tree) ≡ false
    unfolding signature_invalid signature_length
    signature_invalid-lms_signature =
        let s = lms_signature lms_type ots_type I q seed C message tree in
        let room : 4 ≤ ots_length (width ots_type) = four_le_ots_length (width ots_type) in
        let size : length s ≡ 8 + ots_length (width ots_type) + 32 * height lms_type =
        length-lms_signature lms_type ots_type I q seed C message tree c length-path in
        let type : u32_at 4 s ≡ ots_type =
        ap number
        (sym (part-part 0 4 4 (ots_length (width ots_type)) s room)
        ∙ ap (part 0 4) (ots_lms_signature lms_type ots_type I q seed C message tree c)
        ∙ type_ots_signature ots_type I q seed C message c)
        ∙ number-be 4 ots_type ots_below in
        rw (
          le-ltb (length s) 8 (omega arith),
          type,
          eq-eqb ots_type ots_type refl,
          le-ltb (length s) (8 + ots_length (width ots_type)) (omega arith),
          sig_type_lms_signature lms_type ots_type I q seed C message tree c lms_below,
          eq-eqb lms_type lms_type refl,
          leaf-lms_signature lms_type ots_type I q seed C message tree c q_below,
          lt-leb (2 ^ height lms_type) q below,
          eq-eqb (length s) (signature_length (height lms_type) (width ots_type)) size,
          ots_invalid-inside (height lms_type) ots_type s type size,
        )

    root_candidate-lms_signature : root_candidate (height lms_type) (width ots_type) I message (lms_signature lms_type ots_type I q seed C message tree)
        ≡ T (height lms_type) (width ots_type) I seed 1
    unfolding root_candidate
    root_candidate-lms_signature =
        let r = 2 ^ height lms_type + q in
        let leaf : T (height lms_type) (width ots_type) I seed r ≡ H (leaf_input I r (ots_key I q (width ots_type) seed)) =
        rw add-sub_cancel_left at (T-leaf (height lms_type) (width ots_type) I seed r (omega arith)) in
        let root : r / 2 ^ height lms_type ≡ 1 = rw one-mul at (high 1 (height lms_type) below) in
        rw (
          leaf-lms_signature lms_type ots_type I q seed C message tree c q_below,
          ots_lms_signature lms_type ots_type I q seed C message tree c,
          candidate-ots_signature ots_type I q seed C message c,
          ← leaf,
        )
        (climbed-T (height lms_type) (width ots_type) I seed r (lms_signature lms_type ots_type I q seed C message tree)
        (omega arith) (omega arith)
        (λ i h. path-lms_signature lms_type ots_type I q seed C message tree c length-path i h ∙ path-T i h)
        (height lms_type) (le_refl _)
        ∙ ap (T (height lms_type) (width ots_type) I seed) root)

    pub valid-lms_signature : valid (public_key lms_type ots_type I seed) message (lms_signature lms_type ots_type I q seed C message tree) ≡ true
    unfolding valid
    valid-lms_signature =
        rw (
          key_invalid-public_key,
          lms_type_public_key lms_type ots_type I seed e lms_below,
          ots_type_public_key lms_type ots_type I seed e ots_below,
          identifier-public_key lms_type ots_type I seed e,
          root-public_key lms_type ots_type I seed e,
          signature_invalid-lms_signature,
          root_candidate-lms_signature,
        )
        (same_refl _)
