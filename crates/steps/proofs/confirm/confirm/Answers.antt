use Rattle.std.proofs.Common.{refl}
use Rattle.phase.specs.PhasesLaws.{did_writing_one}
use Rattle.protocol.specs.Step.{confirm, write}
use Rattle.protocol.specs.Message.{Notice}
use Rattle.protocol.specs.Record.{with_confirmed}
use Rattle.steps.proofs.confirm.confirm.Goals as goal

pub returns : goal.returns
unfolding confirm write
returns c =
    let args = c.args in
    let r = args.p.unit in
    let wrote = c.write_notice-at in (
      λ store.
          did_writing_one confirm r store (Notice r.round r.seat r.own.value) args.out.now args.p.at (with_confirmed r) store wrote.new.out wrote.result refl
          (record { recorded = refl; stored = refl }) wrote.ensures.0,
      wrote.ensures.1,
    )
