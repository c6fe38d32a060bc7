use Rattle.std.proofs.Common.{◌≡◌, arith, ap, subst, List, ℕ, get_or}
use Rattle.sha256_lanes.specs.Rows.{Rounded}
use Rattle.sha256_lanes.specs.RowsLaws.{unchanged_all, unchanged_then, rounded_none, rounded_then}
use Rattle.sha256_lanes.proofs.rounds.Goals as goal

pub loop-t-init : goal.loop-t-init
loop-t-init c = record { unchanged = unchanged_all _ _; rounded = rounded_none _ _ _ }

pub round-requires : goal.round-requires
round-requires c = (omega arith, ap (λ (l : List ℕ). get_or l c.loop-t.t 0) c.args.k.now.standard)

pub loop-t-preserved : goal.loop-t-preserved
loop-t-preserved c = record {
  unchanged = unchanged_then _ _ _ c.loop-t.s _ (omega arith) c.loop-t.invariant.unchanged c.round.ensures.unchanged;
  rounded = rounded_then _ _ c.loop-t.t _ _ c.loop-t.s _ c.loop-t.invariant.rounded c.round.ensures.rounded;
}

pub returns : goal.returns
returns c =
    let all : c.loop-t.t ≡ c.args.to = omega arith in
    record {
      unchanged = c.loop-t.invariant.unchanged;
      rounded = subst (λ (t : ℕ). Rounded c.args.w.now c.args.from t c.args.s.now c.loop-t.s) all c.loop-t.invariant.rounded;
    }
