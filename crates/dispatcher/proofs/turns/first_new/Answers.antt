use Rattle.std.proofs.Common.{◌∙◌, refl, sym, arith, unwrap_or}
use Rattle.dispatch.specs.Dispatcher.{lanes}
use Rattle.dispatch.specs.Turns.{first_new}
use Rattle.dispatcher.specs.TurnsLaws.{new-here, new_not}
use Rattle.dispatcher.proofs.turns.first_new.Goals as goal
use Rattle.dispatcher.proofs.turns.first_new.Goals.{then-is_first_new, else-is_first_new}

pub loop-lane-init : goal.loop-lane-init
unfolding first_new
loop-lane-init c = (refl, tt)

pub loop-lane-preserved : goal.loop-lane-preserved
loop-lane-preserved c =
    let d = c.args.d.now in
    let loop = c.loop-lane in
    let found = unwrap_or loop.found lanes in
    elim c.if-is_first_new.branch [
      | then-is_first_new w ↦
          rw w.found-is (new-here d loop.lane found loop.invariant.0 (sym c.is_first_new.ensures ∙ w.if-is_first_new.true), omega arith)
      | else-is_first_new w ↦
          rw w.found-is (new_not d loop.lane found loop.invariant.0 (sym c.is_first_new.ensures ∙ w.if-is_first_new.false), loop.invariant.1)
    ]
