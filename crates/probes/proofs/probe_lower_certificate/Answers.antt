use Rattle.std.proofs.Common.{◌∙◌}
use Rattle.protocol.specs.Signatures.{checks}
use Rattle.protocol.specs.Calls.{lower_certificate}
use Rattle.probes.specs.ProbesLaws.{copy_short, copy_fits}
use Rattle.probes.proofs.probe_lower_certificate.Goals as goal

pub returns-then-out-lower : goal.returns-then-out-lower
returns-then-out-lower c =
    let a = c.args in
    let short = copy_short (lower_certificate (checks a.keys.now a.round) a.n a.round a.keys.now a.first.now a.second.now) a.out.now _ c.lower_certificate-lower.ensures.bytes c.if-out-lower.true in
    (c.number.ensures ∙ short.0, short.1)

pub returns : goal.returns
returns c =
    let a = c.args in
    copy_fits (lower_certificate (checks a.keys.now a.round) a.n a.round a.keys.now a.first.now a.second.now) a.out.now _ _ c.lower_certificate-lower.ensures.bytes c.if-out-lower.false c.copy_bytes.ensures
