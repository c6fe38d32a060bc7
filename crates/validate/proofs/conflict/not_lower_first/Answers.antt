use Rattle.std.proofs.Common.{sym, ◌∙◌}
use Rattle.protocol.specs.EntriesLaws.{each_not, passed_none, passed_next, passed_all}
use Rattle.signatures.specs.EntriesLaws.{pair-found, pairs-ordered}
use Rattle.validate.proofs.conflict.not_lower_first.Goals as goal

pub loop-t-init : goal.loop-t-init
loop-t-init c = passed_none

pub lower_first-requires : goal.lower_first-requires
lower_first-requires c =
    let inside = pair-found _ _ c.requires c.loop-t.t (rw c.evidence_entries-entries.ensures.0 at c.loop-t-test.true) _ c.pair_at.ensures in
    (inside.1, inside.2)

pub returns-then-not-lower_first : goal.returns-then-not-lower_first
returns-then-not-lower_first c =
    let fails = rw c.pair_at.ensures at (sym c.lower_first.ensures ∙ c.if-not-lower_first.true) in
    sym (pairs-ordered _ _ c.requires ∙ rw (each_not _ c.loop-t.t _ (rw c.evidence_entries-entries.ensures.0 at c.loop-t-test.true) fails))

pub loop-t-preserved : goal.loop-t-preserved
loop-t-preserved c =
    let right = rw c.pair_at.ensures at (sym c.lower_first.ensures ∙ c.if-not-lower_first.false) in
    passed_next c.loop-t.invariant (rw c.evidence_entries-entries.ensures.0 at c.loop-t-test.true) right

pub returns : goal.returns
returns c = sym (pairs-ordered _ _ c.requires ∙ rw (passed_all c.loop-t.invariant (rw c.evidence_entries-entries.ensures.0 at c.loop-t-test.false)))
