use Rattle.std.proofs.Common.{length, ◌∙◌, arith}
use Rattle.collecting.specs.CollectingLaws.{submitted-fits}
use Rattle.steps.specs.StepsLaws.{ready-fits, all_fits, rest-fits, submit-done}
use Rattle.steps.proofs.phases.submit_phase.Goals as goal

pub submit_own-p-requires : goal.submit_own-p-requires
submit_own-p-requires c =
    let args = c.args in
    (ready-fits args.r args.store.now args.out.now c.requires.0, c.requires.2, c.requires.3, omega (arith, all_fits args.r.n (length args.out.now) c.requires.0.room))

pub collect_kept-unit-requires : goal.collect_kept-unit-requires
collect_kept-unit-requires c =
    let args = c.args in
    let said = c.submit_own-p in
    (submitted-fits args.r c.requires.0.possible args.store.now (ready-fits args.r args.store.now args.out.now c.requires.0) said.result.unit said.new.store said.auto.store
    args.value.now args.signature.now c.requires.1 said.ensures.0.changed).0

pub confirm_if_complete-requires : goal.confirm_if_complete-requires
confirm_if_complete-requires c =
    let args = c.args in
    let said = c.submit_own-p in
    let kept = c.collect_kept-unit in
    let same =
    (submitted-fits args.r c.requires.0.possible args.store.now (ready-fits args.r args.store.now args.out.now c.requires.0) said.result.unit said.new.store said.auto.store
    args.value.now args.signature.now c.requires.1 said.ensures.0.changed).1 in
    let room =
    rest-fits args.r.n kept.result.n said.result.at (length args.out.now) (kept.ensures.2 ∙ same) (omega (arith, said.ensures.1)) c.requires.0.room in
    (kept.ensures.1, omega (arith, room, said.auto.out))

pub returns : goal.returns
returns c =
    let confirmed = c.confirm_if_complete in
    let kept = c.collect_kept-unit in
    let said = c.submit_own-p in
    let args = c.args in
    submit-done args.r args.store.now args.out.now said.result.unit said.new.store said.new.out said.result.at kept.result kept.new.store
    confirmed.result.unit confirmed.new.store confirmed.new.out confirmed.result.at args.value.now args.signature.now said.ensures.0 kept.ensures.0 confirmed.ensures
