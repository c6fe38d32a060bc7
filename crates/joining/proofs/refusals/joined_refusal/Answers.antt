use Rattle.std.proofs.Common.{sym, ◌∙◌}
use Rattle.protocol.specs.JoiningLaws.{new-evidence}
use Rattle.protocol.specs.Refusals.{joined_conditions}
use Rattle.wire.specs.KindLaws.{kind-told}
use Rattle.validate.specs.CallsLaws.{pack-told}
use Rattle.joining.proofs.refusals.joined_refusal.Goals as goal

pub pack_refusal-requires : goal.pack_refusal-requires
pack_refusal-requires c =
    let told = kind-told _ _ c.classify-kind.ensures in
    (told, λ t. new-evidence _ (sym (c.is_new_evidence.ensures _ told) ∙ t))

pub returns : goal.returns
unfolding joined_conditions
returns c = pack-told _ _ _ _ _ _ (c.is_new_evidence.ensures _ (kind-told _ _ c.classify-kind.ensures)) _ c.pack_refusal.ensures
