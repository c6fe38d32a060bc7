use Rattle.std.proofs.Common.{◌∙◌}
use Rattle.probes.specs.ProbesLaws.{digest_short, digest_fits}
use Rattle.probes.proofs.probe_sha256.Goals as goal

pub returns-then-out-lt32-clause-value : goal.returns-then-out-lt32-clause-value
returns-then-out-lt32-clause-value c =
    let a = c.args in
    c.number.ensures ∙ (digest_short a.message.now a.out.now c.if-out-lt32.true).0

pub returns-then-out-lt32-clause-out_after : goal.returns-then-out-lt32-clause-out_after
returns-then-out-lt32-clause-out_after c =
    let a = c.args in
    (digest_short a.message.now a.out.now c.if-out-lt32.true).1

pub returns-clause-value : goal.returns-clause-value
returns-clause-value c =
    let a = c.args in
    (digest_fits a.message.now a.out.now _ _ c.if-out-lt32.false c.sha256-d.ensures c.copy.ensures).0

pub returns-clause-out_after : goal.returns-clause-out_after
returns-clause-out_after c =
    let a = c.args in
    (digest_fits a.message.now a.out.now _ _ c.if-out-lt32.false c.sha256-d.ensures c.copy.ensures).1
