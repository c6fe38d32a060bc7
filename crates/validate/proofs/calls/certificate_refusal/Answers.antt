use Rattle.std.proofs.Common.{rules}
use Rattle.wire.specs.KindLaws.{kind-told}
use Rattle.validate.specs.CallsLaws.{certificate-told}
use Rattle.validate.proofs.calls.certificate_refusal.Goals as goal

pub message_refusal-requires : goal.message_refusal-requires
message_refusal-requires c = search (rules, kind-told)

pub returns : goal.returns
returns c =
    let told = kind-told _ _ c.classify-kind.ensures in
    certificate-told _ _ _ _ _ (c.is_certificate.ensures _ told) _ c.message_refusal.ensures
