use Rattle.std.proofs.Common.{length, ◌∙◌, arith}
use Rattle.protocol.specs.Step.{notices_with}
use Rattle.wire.specs.MessageLaws.{long-enough}
use Rattle.wire.specs.declared.read.Kind.TheVariants as kind
use Rattle.certificates.specs.CertificatesLaws.{heard-fits, heard-room}
use Rattle.steps.specs.StepsLaws.{ready-fits, all_fits, notice-heard}
use Rattle.steps.proofs.phases.step_notice.Goals as goal

pub value_at-value-requires : goal.value_at-value-requires
value_at-value-requires c =
    omega (arith, c.value_at.ensures, long-enough kind.Notice c.args.r.n c.args.message.now c.requires.1 (λ e. omega arith))

pub reply-requires : goal.reply-requires
reply-requires c =
    let heard = c.hear-unit in
    let args = c.args in
    let notices = notices_with c.value_at-value.result args.r in
    let fits = ready-fits args.r args.store.now args.out.now c.requires.0 in
    let room = all_fits args.r.n (length args.out.now) c.requires.0.room in (
      heard-fits args.r args.store.now notices heard.result heard.ensures fits,
      heard-room args.r args.store.now notices heard.result heard.ensures 0 0 (length args.out.now) (omega (arith, room)),
    )

pub returns : goal.returns
returns c =
    let replied = c.reply in
    let args = c.args in
    notice-heard args.r args.store.now args.out.now args.message.now c.hear-unit.result replied.result.unit args.store.now replied.new.out replied.result.at
    c.value_at-value.result c.requires.1 (c.value_at-value.ensures ∙ rw c.value_at.ensures) c.hear-unit.ensures replied.ensures.0
