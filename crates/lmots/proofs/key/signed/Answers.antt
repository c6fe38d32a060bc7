use Rattle.std.proofs.Common.{ℕ}
use Rattle.std.proofs.lemmas.List.{length-replicate}
use Rattle.rfc8554.specs.Ots.{chains}
use Rattle.lmots.specs.KeyLaws.{ordered-signed, signed_by}
use Rattle.lmots.proofs.key.signed.Goals as goal

pub invariant_of-chains-clause-ordered : goal.invariant_of-chains-clause-ordered
invariant_of-chains-clause-ordered c = ordered-signed _ c.digit_places.ensures.1

pub returns : goal.returns
unfolding chains
returns c = signed_by _ _ _ _ _ _ _ _ (length-replicate {A = ℕ} 2144 0) c.digit_places.ensures.0 c.write_starts.ensures c.run.ensures
