use Rattle.std.proofs.Common.{sym, ◌∙◌, ◌<◌, length, arith, rules}
use Rattle.sha256_constants.specs.PrimesLaws.{filled_none, filled_more, filled_same, filled-room, filled-done}
use Rattle.sha256_constants.proofs.round_constants.Goals as goal
use Rattle.sha256_constants.proofs.round_constants.Goals.{then-prime, else-prime}

pub loop-n-init : goal.loop-n-init
loop-n-init c = record { long = search rules; filled = filled_none _; root_below = omega arith }

pub offset_bounds-words-count : goal.offset_bounds-words-count
offset_bounds-words-count c = search (rules, filled-room _ _ _ c.loop-n.invariant.filled (omega arith) (sym c.prime.ensures ∙ c.if-prime.true))

pub bounds-words-count : goal.bounds-words-count
bounds-words-count c = filled-room _ _ _ c.loop-n.invariant.filled (omega arith) (sym c.prime.ensures ∙ c.if-prime.true)

pub overflow_add-count : goal.overflow_add-count
overflow_add-count c = search (rules, filled-room _ _ _ c.loop-n.invariant.filled (omega arith) (sym c.prime.ensures ∙ c.if-prime.true))

pub loop-n-preserved : goal.loop-n-preserved
loop-n-preserved c =
    elim c.if-prime.branch [
      | then-prime w ↦
          let p = sym c.prime.ensures ∙ w.if-prime.true in
          let room : c.loop-n.count < length c.loop-n.words = omega (arith, c.loop-n.invariant.long, filled-room _ _ _ c.loop-n.invariant.filled (omega arith) p) in
          rw (w.words-is, w.count-is, w.root4-is)
          (record { long = search rules; filled = filled_more _ _ _ _ c.loop-n.invariant.filled room p w.fraction.ensures; root_below = omega (arith, w.climbed-root4.ensures.below) })
      | else-prime w ↦
          rw (w.words-is, w.count-is, w.root4-is)
          (record { long = search rules; filled = filled_same _ _ _ c.loop-n.invariant.filled (sym c.prime.ensures ∙ w.if-prime.false); root_below = omega arith })
    ]

pub invariant_of-result : goal.invariant_of-result
invariant_of-result c = record { standard = filled-done _ _ _ c.loop-n.invariant.filled (omega arith) c.loop-n.invariant.long }
