use Rattle.std.proofs.Common.{length, ◌∙◌, arith}
use Rattle.store.specs.Sources.{bytes_of}
use Rattle.store.specs.SourcesLaws.{full-readable}
use Rattle.wire.specs.MessageLaws.{long-enough}
use Rattle.wire.specs.declared.read.Kind.TheVariants as kind
use Rattle.steps.specs.StepsLaws.{ready-fits, all_fits, full-said, full-heard}
use Rattle.steps.proofs.phases.step_full.Goals as goal

pub value_at-requires-2 : goal.value_at-requires-2
value_at-requires-2 c =
    omega (arith, c.value_at.ensures, long-enough kind.Full c.args.r.n c.args.message.now c.requires.1 (λ e. omega arith))

pub hear_certificate-requires : goal.hear_certificate-requires
unfolding bytes_of
hear_certificate-requires c =
    let set = c.entry_set in
    let args = c.args in
    let n = args.r.n in
    let m = args.message.now in (
      ready-fits args.r args.store.now args.out.now c.requires.0,
      full-readable n m (full-said n m c.requires.1) c.requires.2 c.requires.3 set.result set.ensures,
      omega (arith, all_fits n (length args.out.now) c.requires.0.room),
    )

pub returns : goal.returns
unfolding bytes_of
returns c =
    let heard = c.hear_certificate in
    let set = c.entry_set in
    let args = c.args in
    full-heard args.r args.store.now args.out.now args.message.now args.r heard.result.unit heard.new.store heard.new.out heard.result.at
    set.result c.value_at-2.result c.requires.1 c.requires.2 c.requires.3 set.ensures (c.value_at-2.ensures ∙ rw c.value_at.ensures) heard.ensures
