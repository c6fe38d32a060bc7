-- The tree's buffer as the key maker fills it: the leaves, then the inner nodes up to the root.
use Rattle.std.specs.Prelude.{◌≡◌}
use Rattle.std.proofs.Math.Path.{refl, sym, ap}
use Rattle.std.proofs.Common.{◌∙◌, add_assoc, add-one}
use mathlib.Core.List.{List, ◌++◌}
use Prim.Native.Nat.{ℕ, zero, suc, ◌+◌, ◌-◌, ◌*◌, ◌≤◌, ◌<◌}
use Rattle.std.proofs.Math.Nat.{add-sub_cancel_left}
use native.Mathlib.Omega.{arith}
use Rattle.std.proofs.Math.ListN.{length}
use Rattle.octets.specs.Octets.{part, patch}
use Rattle.octets.specs.Strings.{joined}
use Rattle.octets.specs.StringsLaws.{patch_before, length-joined, part-joined, joined_same, joined-add}
use Rattle.octets.specs.WriteLaws.{part-add, patch_next, joined-written}
use Rattle.rfc8554.specs.Ots.{H, ots_key}
use Rattle.rfc8554.specs.Tree.{T, nodes, tree_filled}
use Rattle.rfc8554.specs.TreeLaws.{T-leaf, T_inner, length-T, length-nodes, nodes-suc, part-nodes}
use Rattle.lmots.specs.LeavesLaws.{length-ots_key}
use Rattle.lms.specs.Pieces.{leaf_over, over_children, inner_put, inners_put}
use Rattle.lms.specs.NodeLaws.{length-leaf_over, over-two}

-- ---- nodes, as the code writes them

-- the leaf of number q + i over the i-th of keys in one string
unfoldable pub leaf_at : List ℕ → ℕ → List ℕ → ℕ → List ℕ
leaf_at I q keys i = leaf_over I (q + i) (part (32 * i) 32 keys)

-- one more of sixteen leaves, over its key
pub sixteen_next : (I keys before tree key new : List ℕ) (q l : ℕ) → 32 * (1024 + q) ≤ length before
    → tree ≡ patch (32 * (1024 + q)) (joined (leaf_at I q keys) l) before → key ≡ part (32 * l) 32 keys
    → new ≡ patch (32 * (1024 + (q + l))) (leaf_over I (q + l) key) tree → new ≡ patch (32 * (1024 + q)) (joined (leaf_at I q keys) (l + 1)) before
unfolding leaf_at
sixteen_next I keys before tree key new q l h e k f =
    let next : 32 * (1024 + (q + l)) ≡ 32 * (1024 + q) + 32 * l = omega arith in
    joined-written (leaf_at I q keys) (32 * (1024 + q)) l before tree _ new (length-joined 32 _ l (λ i _. length-leaf_over I (q + i) _)) h e (ap (leaf_over I (q + l)) k)
    (rw next at f)

module _ (I seed : List ℕ) where
  leaf-node : (keys : List ℕ) (q i : ℕ) → i < 16 → keys ≡ joined (λ l. ots_key I (q + l) 8 seed) 16 → leaf_at I q keys i ≡ T 10 8 I seed (1024 + q + i)
  unfolding leaf_at leaf_over
  leaf-node keys q i h e =
      let key : part (32 * i) 32 keys ≡ ots_key I (q + i) 8 seed =
      rw e (part-joined 32 (λ l. ots_key I (q + l) 8 seed) 16 (λ l _. length-ots_key I (q + l) 8 seed) i h) in
      let same : 1024 + q + i ≡ 1024 + (q + i) = omega arith in
      rw (key, same) (sym (rw add-sub_cancel_left at (T-leaf 10 8 I seed (1024 + (q + i)) (omega arith))))

  pub sixteen_done : (keys before new : List ℕ) (q l : ℕ) → l ≡ 16 → keys ≡ joined (λ i. ots_key I (q + i) 8 seed) 16
      → new ≡ patch (32 * (1024 + q)) (joined (leaf_at I q keys) l) before → new ≡ patch (32 * (1024 + q)) (nodes 10 8 I seed (1024 + q) 16) before
  unfolding nodes
  sixteen_done keys before new q l e k f =
      (rw e at f) ∙ ap (λ (ns : List ℕ). patch (32 * (1024 + q)) ns before) (joined_same _ _ 16 (λ i h. leaf-node keys q i h k))

  pub leaves_next : (before tree new : List ℕ) (n : ℕ) → 32 * 1024 ≤ length before
      → tree ≡ patch (32 * 1024) (nodes 10 8 I seed 1024 (16 * n)) before
      → new ≡ patch (32 * (1024 + 16 * n)) (nodes 10 8 I seed (1024 + 16 * n) 16) tree
      → new ≡ patch (32 * 1024) (nodes 10 8 I seed 1024 (16 * (n + 1))) before
  unfolding nodes
  leaves_next before tree new n h e f =
      let more : 16 * (n + 1) ≡ 16 * n + 16 = omega arith in
      let at : 32 * (1024 + 16 * n) ≡ 32 * 1024 + length (nodes 10 8 I seed 1024 (16 * n)) = rw (length-nodes 10 8 I seed 1024 (16 * n)) (omega arith) in
      patch_next (32 * 1024) (32 * (1024 + 16 * n)) (nodes 10 8 I seed 1024 (16 * n)) (nodes 10 8 I seed (1024 + 16 * n) 16) before tree new e at h f
      ∙ ap (λ (ns : List ℕ). patch (32 * 1024) ns before)
      (ap (λ (ns : List ℕ). nodes 10 8 I seed 1024 (16 * n) ++ ns) (joined_same _ _ 16 (λ i _. ap (T 10 8 I seed) (add_assoc 1024 (16 * n) i)))
      ∙ sym (rw more (joined-add (λ i. T 10 8 I seed (1024 + i)) (16 * n) 16)))

pub inner_put_lem : (I tree children n new : List ℕ) (r : ℕ) → children ≡ part (64 * r) 64 tree → n ≡ H (over_children I r children)
    → new ≡ patch (32 * r) n tree → new ≡ inner_put I r tree
unfolding inner_put
inner_put_lem I tree children n new r e f g = rw (← e, ← f) g

pub inners_next : (I before tree new : List ℕ) (t : ℕ) → tree ≡ inners_put I t before → new ≡ inner_put I (1023 - t) tree
    → new ≡ inners_put I (t + 1) before
unfolding inners_put
inners_next I before tree new t e f = rw (add-one, ← e) f

-- ---- the filled buffer

module _ (I seed before : List ℕ) (e : length before ≡ 65536) where
  -- with all nodes after r in place, node r comes out right
  inner_node : (r n : ℕ) → 1 ≤ r → r < 1024 → suc r + n ≡ 2048
      → inner_put I r (patch (32 * suc r) (nodes 10 8 I seed (suc r) n) before) ≡ patch (32 * r) (nodes 10 8 I seed r (suc n)) before
  unfolding inner_put
  inner_node r n k l m =
      let tree = patch (32 * suc r) (nodes 10 8 I seed (suc r) n) before in
      let at : (x : ℕ) → suc r ≤ x → x < 2048 → part (32 * x) 32 tree ≡ T 10 8 I seed x =
      λ x a b. part-nodes 10 8 I seed (suc r) n before (omega arith) x a (omega arith) in
      let first : 64 * r ≡ 32 * (2 * r) = omega arith in
      let second : 32 * (2 * r) + 32 ≡ 32 * (2 * r + 1) = omega arith in
      let children : part (64 * r) 64 tree ≡ T 10 8 I seed (2 * r) ++ T 10 8 I seed (2 * r + 1) =
      rw (first, part-add (32 * (2 * r)) 32 32 tree, second, at (2 * r) (omega arith) (omega arith), at (2 * r + 1) (omega arith) (omega arith)) in
      let hashed : H (over_children I r (part (64 * r) 64 tree)) ≡ T 10 8 I seed r =
      over-two I _ _ _ _ r children refl ∙ sym (T_inner 10 8 I seed r k l) in
      let next : 32 * suc r ≡ 32 * r + length (T 10 8 I seed r) = rw length-T (omega arith) in
      rw (hashed, nodes-suc, next) (patch_before (32 * r) (T 10 8 I seed r) (nodes 10 8 I seed (suc r) n) before (rw length-T (omega arith)))

  inners_nodes : (t : ℕ) → t ≤ 1023
      → inners_put I t (patch (32 * 1024) (nodes 10 8 I seed 1024 1024) before) ≡ patch (32 * (1024 - t)) (nodes 10 8 I seed (1024 - t) (1024 + t)) before
  unfolding inners_put
  inners_nodes zero k = refl
  inners_nodes (suc t) k =
      let r = 1023 - t in
      let above : 1024 - t ≡ suc r = omega arith in
      let here : 1024 - suc t ≡ r = omega arith in
      let count : 1024 + suc t ≡ suc (1024 + t) = omega arith in
      rw (inners_nodes t (omega arith), above, here, count) (inner_node r (1024 + t) (omega arith) (omega arith) (omega arith))

  pub tree-filled : (leaves tree : List ℕ) → leaves ≡ patch (32 * 1024) (nodes 10 8 I seed 1024 1024) before
      → tree ≡ inners_put I 1023 leaves → tree ≡ tree_filled I seed before
  unfolding tree_filled
  tree-filled leaves tree f g = g ∙ rw f (inners_nodes 1023 (omega arith))
