-- Keys and signatures, as they are written piece by piece.
use Rattle.std.specs.Prelude.{◌≡◌, List, ◌++◌, ℕ, ◌+◌, ◌*◌, ◌/◌, ◌^◌, ◌≤◌, ◌<◌}
use Rattle.std.proofs.Math.Path.{refl}
use Rattle.std.proofs.Common.{◌∙◌, append_assoc, arith, length-append}
use Rattle.std.proofs.Math.ListN.{length}
use Rattle.octets.specs.Octets.{part, patch, be}
use Rattle.octets.specs.OctetsLaws.{length_part, length-be}
use Rattle.octets.specs.Strings.{joined}
use Rattle.octets.specs.StringsLaws.{part_all, length-joined}
use Rattle.octets.specs.WriteLaws.{patch_next, joined-written}
use Rattle.rfc8554.specs.Ots.{width, chains, digested, signed, ots_signature}
use Rattle.rfc8554.specs.OtsLaws.{length-signed}
use Rattle.rfc8554.specs.Tree.{height, T, public_key, tree_filled, sibling, path, lms_signature}
use Rattle.rfc8554.specs.TreeLaws.{part-tree_filled}
use Rattle.rfc8554.specs.VerifyLaws.{sibling-within, ancestor_within}
use Rattle.protocol.specs.Layout.{tree_length}

-- ---- writes in a row

module _ (at : ℕ) (a b c xs p q r : List ℕ) (i j : ℕ) (h : at ≤ length xs) (u : p ≡ patch at a xs) (v : q ≡ patch i b p) (w : r ≡ patch j c q)
    (e : i ≡ at + length a) (f : j ≡ i + length b) where
  pub three-writes : r ≡ patch at (a ++ b ++ c) xs
  three-writes =
      patch_next at j (a ++ b) c xs q r (patch_next at i a b xs p q u e h v) (rw length-append (omega arith)) h w

  pub four-writes : (d s : List ℕ) (k : ℕ) → s ≡ patch k d r → k ≡ j + length c → s ≡ patch at (a ++ b ++ c ++ d) xs
  four-writes d s k y g = patch_next at k (a ++ b ++ c) d xs r s three-writes (simp length-append (omega arith)) h y

-- ---- the path of a leaf r of 1,024

module _ (tree : List ℕ) (r : ℕ) (t : length tree ≡ tree_length) (k : 1024 ≤ r) (l : r < 2048) where
  -- the node x, less than ten levels above the leaf, is below the root
  pub way_within : (x i : ℕ) → x ≡ r / 2 ^ i → i < 10 → (1 < x) × (x < 2048)
  way_within x i e h = rw e (ancestor_within 10 r i k l h)

  length-path : (i : ℕ) → i < 10 → length (path tree r i) ≡ 32
  unfolding path tree_length
  length-path i h =
      let within = way_within (r / 2 ^ i) i refl h in
      length_part _ 32 tree (omega (arith, (sibling-within 1024 (r / 2 ^ i) within.0 within.1).1))

  -- one pass of the loop that writes the path
  pub path_next : (before out beside new : List ℕ) (at x i s : ℕ) → x ≡ r / 2 ^ i → i < 10 → s ≡ sibling x
      → beside ≡ part (32 * s) 32 tree → at ≤ length before → out ≡ patch at (joined (path tree r) i) before
      → new ≡ patch (at + 32 * i) beside out → new ≡ patch at (joined (path tree r) (i + 1)) before
  unfolding path
  path_next before out beside new at x i s e h f g a u v =
      let long : length (joined (path tree r) i) ≡ 32 * i = length-joined 32 (path tree r) i (λ j b. length-path j (omega arith)) in
      joined-written (path tree r) at i before out beside new long a u (g ∙ rw (f, e)) v

-- ---- a whole key, and a whole signature

-- the first n bytes of a string of n bytes
pub whole-string : (xs ws : List ℕ) (n : ℕ) → length xs ≡ n → ws ≡ part 0 n xs → ws ≡ xs
whole-string xs ws n e f = f ∙ part_all xs n e

-- result of the key maker: the tree, and the key with the root from the tree
pub key_written : (I I' seed seed' before tree root out new : List ℕ) → length before ≡ tree_length → I' ≡ I → seed' ≡ seed
    → tree ≡ tree_filled I' seed' before → root ≡ part 32 32 tree → new ≡ patch 0 (be 4 6 ++ be 4 4 ++ I ++ root) out
    → (tree ≡ tree_filled I seed before) × (new ≡ patch 0 (public_key 6 4 I seed) out)
unfolding public_key height width tree_length
key_written I I' seed seed' before tree root out new t d e u v w =
    let filled : tree ≡ tree_filled I seed before = rw (d, e) at u in
    let top : root ≡ T 10 8 I seed 1 = v ∙ rw filled (part-tree_filled I seed before t 1 (omega arith) (omega arith)) in
    (filled, w ∙ rw top)

regrouped : (q t C ys l p : List ℕ) → q ++ t ++ C ++ ys ++ (l ++ p) ≡ q ++ (t ++ C ++ ys) ++ l ++ p
regrouped q t C ys l p = simp append_assoc

-- the values for a message's digits
pub values_for : (I seed digits S out new : List ℕ) (leaf : ℕ) → digits ≡ S → new ≡ patch 40 (joined (signed I leaf 8 seed digits) 34) out
    → new ≡ patch 40 (joined (signed I leaf 8 seed S) 34) out
values_for I seed digits S out new leaf e f = f ∙ rw e

-- a whole signature: head, values and tail
pub signature-written : (I I' seed seed' C message tree out a b c : List ℕ) (leaf : ℕ) → length C ≡ 32 → I' ≡ I → seed' ≡ seed
    → a ≡ patch 0 (be 4 leaf ++ be 4 4 ++ C) out
    → b ≡ patch 40 (joined (signed I' leaf 8 seed' (digested I' leaf 8 C message)) 34) a
    → c ≡ patch 1128 (be 4 6 ++ joined (path tree (1024 + leaf)) 10) b
    → c ≡ patch 0 (lms_signature 6 4 I leaf seed C message tree) out
unfolding lms_signature ots_signature height width chains
signature-written I I' seed seed' C message tree out a b c leaf l d e u v w =
    let ys = joined (signed I leaf 8 seed (digested I leaf 8 C message)) 34 in
    let head : length (be 4 leaf ++ be 4 4 ++ C) ≡ 40 = simp (length-append, length-be) (omega arith) in
    let values : length ys ≡ 32 * 34 = length-joined 32 _ 34 (λ i _. length-signed I leaf 8 seed _ i) in
    let written : c ≡ patch 0 (be 4 leaf ++ be 4 4 ++ C ++ ys ++ (be 4 6 ++ joined (path tree (1024 + leaf)) 10)) out =
    three-writes 0 (be 4 leaf ++ be 4 4 ++ C) ys _ out a b c 40 1128 (omega arith) u (rw (d, e) at v) w (omega arith) (omega arith) in
    written ∙ rw (regrouped (be 4 leaf) (be 4 4) C ys (be 4 6) (joined (path tree (1024 + leaf)) 10))
