-- Laws of the LMS tree: T[r] by the RFC's two equations, lengths, and the tree's buffer.
use Rattle.std.specs.Prelude.{◌≡◌, Bool, cond, List, ◌++◌, leb}
use Rattle.std.proofs.Math.Path.{refl, ap}
use Rattle.std.proofs.Common.{◌∙◌, add-zero, add_assoc, mul-le-mul_right, add-sub_of_le, one-add, le-leb}
use Rattle.std.proofs.Math.Bool.{true, false}
use Prim.Native.Nat.{ℕ, zero, suc, ◌+◌, ◌-◌, ◌*◌, ◌^◌, ◌≤◌, ◌<◌}
use Rattle.std.proofs.Math.Nat.{pow-suc}
use Rattle.std.proofs.Math.Numerals.{add-one}
use native.Mathlib.Omega.{arith}
use Rattle.std.proofs.Math.ListN.{length}
use Rattle.std.proofs.lemmas.Bool.{lt-leb}
use Rattle.octets.specs.Octets.{part, patch}
use Rattle.octets.specs.OctetsLaws.{length-patch}
use Rattle.fips180.specs.FipsLaws.{length-sha256}
use Rattle.octets.specs.Strings.{joined}
use Rattle.rfc8554.specs.Ots.{H, ots_key}
use Rattle.rfc8554.specs.Tree.{leaf_input, inner_input, node, T, nodes, tree_filled}
use Rattle.octets.specs.StringsLaws.{part-patch, length-joined, part-joined, joined-add}

-- ---- T[r] (section 5.3)

module _ (h w : ℕ) (I seed : List ℕ) where
  node-leaf : (d r : ℕ) → 2 ^ h ≤ r → node h w I seed d r ≡ H (leaf_input I r (ots_key I (r - 2 ^ h) w seed))
  unfolding node
  node-leaf zero r k = refl
  node-leaf (suc d) r k = rw (le-leb (2 ^ h) r k)

  -- a node with all its leaves in reach is the same with one level more
  node-suc : (d r : ℕ) → 2 ^ h ≤ r * 2 ^ d → node h w I seed (suc d) r ≡ node h w I seed d r
  unfolding node
  node-suc zero r k = rw (le-leb (2 ^ h) r (omega arith))
  node-suc (suc d) r k =
      let half : 2 ^ h ≤ r * (2 ^ d * 2) = rw pow-suc at k in
      rw (node-suc d (2 * r) (omega arith), node-suc d (2 * r + 1) (omega arith))

  node-below : (d r : ℕ) → r < 2 ^ h
      → node h w I seed (suc d) r ≡ H (inner_input I r (node h w I seed d (2 * r)) (node h w I seed d (2 * r + 1)))
  unfolding node
  node-below d r l = rw (lt-leb (2 ^ h) r l)

  node_inner : (d r : ℕ) → r < 2 ^ h → 2 ^ h ≤ 2 * r * 2 ^ d
      → node h w I seed (suc d) r
      ≡ H (inner_input I r (node h w I seed (suc d) (2 * r)) (node h w I seed (suc d) (2 * r + 1)))
  node_inner d r l k = rw (node-suc d (2 * r) k, node-suc d (2 * r + 1) (omega arith)) (node-below d r l)

  length-node : (d r : ℕ) → length (node h w I seed d r) ≡ 32
  unfolding node
  length-node zero r = length-sha256 _
  length-node (suc d) r = either (leb (2 ^ h) r)
    where
      either : (b : Bool) → length (cond b (H (leaf_input I r (ots_key I (r - 2 ^ h) w seed)))
          (H (inner_input I r (node h w I seed d (2 * r)) (node h w I seed d (2 * r + 1))))) ≡ 32
      either true = length-sha256 _
      either false = length-sha256 _

  pub T-leaf : (r : ℕ) → 2 ^ h ≤ r → T h w I seed r ≡ H (leaf_input I r (ots_key I (r - 2 ^ h) w seed))
  unfolding T
  T-leaf r k = node-leaf h r k

pub T_inner : (h w : ℕ) (I seed : List ℕ) (r : ℕ) → 1 ≤ r → r < 2 ^ h
    → T h w I seed r ≡ H (inner_input I r (T h w I seed (2 * r)) (T h w I seed (2 * r + 1)))
unfolding T
T_inner zero w I seed r k l = absurd (omega arith)
T_inner (suc d) w I seed r k l =
    node_inner (suc d) w I seed d r l (rw pow-suc (omega (arith, mul-le-mul_right (2 ^ d) k)))

-- ---- lengths

pub length-T : (h w : ℕ) (I seed : List ℕ) (r : ℕ) → length (T h w I seed r) ≡ 32
unfolding T
length-T h w I seed r = length-node h w I seed h r

-- ---- the tree's buffer

module _ (h w : ℕ) (I seed : List ℕ) where
  pub length-nodes : (r n : ℕ) → length (nodes h w I seed r n) ≡ 32 * n
  unfolding nodes
  length-nodes r n = length-joined 32 _ n (λ i _. length-T h w I seed (r + i))

  -- more nodes after them
  nodes-add : (r n m : ℕ) → nodes h w I seed r (n + m) ≡ nodes h w I seed r n ++ nodes h w I seed (r + n) m
  unfolding nodes
  nodes-add r n m = simp (joined-add, add_assoc)

  -- one node in front
  pub nodes-suc : (r n : ℕ) → nodes h w I seed r (suc n) ≡ T h w I seed r ++ nodes h w I seed (suc r) n
  unfolding nodes joined
  nodes-suc r n = rw (one-add, add-one, add-zero) at (nodes-add r 1 n)

  -- the node r stands at byte 32 × r
  pub part-nodes : (r n : ℕ) (before : List ℕ) → 32 * r ≤ length before → (x : ℕ) → r ≤ x → x < r + n
      → part (32 * x) 32 (patch (32 * r) (nodes h w I seed r n) before) ≡ T h w I seed x
  unfolding nodes
  part-nodes r n before k x l m =
      let place : 32 * x ≡ 32 * r + 32 * (x - r) = omega arith in
      let fits : 32 * (x - r) + 32 ≤ length (nodes h w I seed r n) = rw length-nodes (omega arith) in
      rw place
      (part-patch (32 * r) (32 * (x - r)) 32 (nodes h w I seed r n) before k fits
      ∙ part-joined 32 _ n (λ i _. length-T h w I seed (r + i)) (x - r) (omega arith)
      ∙ ap (T h w I seed) (add-sub_of_le l))

pub length-tree_filled : (I seed before : List ℕ) → length before ≡ 65536 → length (tree_filled I seed before) ≡ 65536
unfolding tree_filled
length-tree_filled I seed before e = length-patch 32 _ before (rw length-nodes (omega arith)) ∙ e

pub part-tree_filled : (I seed before : List ℕ) → length before ≡ 65536 → (r : ℕ) → 1 ≤ r → r < 2048
    → part (32 * r) 32 (tree_filled I seed before) ≡ T 10 8 I seed r
unfolding tree_filled
part-tree_filled I seed before e r k l = part-nodes 10 8 I seed 1 2047 before (omega arith) r k l
