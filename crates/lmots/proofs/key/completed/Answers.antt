use Rattle.std.proofs.Common.{ℕ, arith, length-take, length-drop}
use Rattle.std.proofs.lemmas.List.{length-replicate}
use Rattle.lmots.specs.KeyLaws.{length-values, ordered-completed, completed_by}
use Rattle.lmots.proofs.key.completed.Goals as goal

pub slice_bounds-copy-count : goal.slice_bounds-copy-count
slice_bounds-copy-count c = omega (arith, c.requires, length-values)

pub slice_bounds-copy-start : goal.slice_bounds-copy-start
slice_bounds-copy-start c = omega (arith, c.requires, length-values)

pub copy-requires : goal.copy-requires
copy-requires c = simp (length-take, length-drop) (omega (arith, c.requires, length-values))

pub invariant_of-chains-clause-ordered : goal.invariant_of-chains-clause-ordered
invariant_of-chains-clause-ordered c = ordered-completed _ _ _ c.most.ensures.0 c.most.ensures.1 c.digit_places.ensures.1

pub returns : goal.returns
returns c =
    completed_by _ _ _ _ _ _ _ _ _ _ _ (length-replicate {A = ℕ} 2144 0) c.chains.ensures.0 c.chains.ensures.2 c.requires c.most.ensures.0
    c.digit_places.ensures.0 c.copy.ensures c.run.ensures
