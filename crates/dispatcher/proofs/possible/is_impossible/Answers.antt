use Rattle.dispatch.specs.Dispatcher.{impossible}
use Rattle.dispatcher.proofs.possible.is_impossible.Goals as goal
use Rattle.dispatcher.proofs.possible.is_impossible.Goals.{then-wrong_rounds, else-wrong_rounds}

pub returns-then-wrong_counts : goal.returns-then-wrong_counts
unfolding impossible
returns-then-wrong_counts c =
    elim c.if-wrong_rounds.branch [
      | then-wrong_rounds w ↦ rw (← c.wrong_rounds.ensures, w.value-is, w.if-wrong_rounds.true)
      | else-wrong_rounds w ↦ rw (← c.wrong_rounds.ensures, w.if-wrong_rounds.false, ← w.wrong_counts.ensures, ← w.value-is, c.if-wrong_counts.true)
    ]

pub returns-else-wrong_counts : goal.returns-else-wrong_counts
unfolding impossible
returns-else-wrong_counts c =
    elim c.if-wrong_rounds.branch [
      | then-wrong_rounds w ↦ cc
      | else-wrong_rounds w ↦
          rw (← c.wrong_rounds.ensures, w.if-wrong_rounds.false, ← w.wrong_counts.ensures, ← w.value-is, c.if-wrong_counts.false)
          c.wrong_order.ensures
    ]
