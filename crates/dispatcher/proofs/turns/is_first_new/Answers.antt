use Rattle.std.proofs.Common.{◌∙◌, sym, true≢false}
use Rattle.dispatcher.proofs.turns.is_first_new.Goals as goal
use Rattle.dispatcher.proofs.turns.is_first_new.Goals.{then-is_waiting, else-is_waiting}

pub returns-then-never_served : goal.returns-then-never_served
returns-then-never_served c =
    elim c.if-is_waiting.branch [
      | then-is_waiting w ↦
          rw (← c.is_waiting.ensures, w.if-is_waiting.true, ← w.never_served.ensures, ← w.value-is, c.if-never_served.true)
          c.goes_first.ensures
      | else-is_waiting w ↦ absurd (true≢false (sym c.if-never_served.true ∙ w.value-is ∙ w.if-is_waiting.false))
    ]

pub returns-else-never_served : goal.returns-else-never_served
returns-else-never_served c =
    elim c.if-is_waiting.branch [
      | then-is_waiting w ↦
          rw (← c.is_waiting.ensures, w.if-is_waiting.true, ← w.never_served.ensures, ← w.value-is, c.if-never_served.false)
      | else-is_waiting w ↦ rw (← c.is_waiting.ensures, w.value-is, w.if-is_waiting.false)
    ]
