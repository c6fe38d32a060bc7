use Rattle.dispatcher.specs.LoopLaws.{Kept}
use Rattle.dispatcher.proofs.lists.serve_last.Given as goal

abbrev pub invariant-loop-other : goal.invariant-loop-other
invariant-loop-other l = Kept l.fn.d.order l.fn.lane l.other-index l.served l.order
