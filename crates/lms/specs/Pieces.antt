-- Intermediate values of the code.
use Rattle.std.specs.Prelude.{List, ◌++◌, ℕ, zero, suc, ◌+◌, ◌-◌, ◌*◌}
use Rattle.octets.specs.Octets.{part, patch}
use Rattle.rfc8554.specs.Ots.{H, u16str, u32str}
use Rattle.rfc8554.specs.Tree.{leaf_input, d_intr}

-- the leaf of number q over its LM-OTS key
unfoldable pub leaf_over : List ℕ → ℕ → List ℕ → List ℕ
leaf_over I q key = H (leaf_input I (1024 + q) key)

-- the hash input of the inner node r, over its children in one string
unfoldable pub over_children : List ℕ → ℕ → List ℕ → List ℕ
over_children I r children = I ++ u32str r ++ u16str d_intr ++ children

-- the tree's buffer once the inner node r is written over its children there
unfoldable pub inner_put : List ℕ → ℕ → List ℕ → List ℕ
inner_put I r tree = patch (32 * r) (H (over_children I r (part (64 * r) 64 tree))) tree

-- the same once t of them are, from node 1,023 on towards the root
unfoldable pub inners_put : List ℕ → ℕ → List ℕ → List ℕ
inners_put I zero tree = tree
inners_put I (suc t) tree = inner_put I (1023 - t) (inners_put I t tree)
