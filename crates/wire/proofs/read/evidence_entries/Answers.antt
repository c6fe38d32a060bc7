use Rattle.std.proofs.Common.{arith}
use Rattle.wire.specs.FormLaws.{entries-old, entries-new}
use Rattle.wire.proofs.read.evidence_entries.Goals as goal

pub returns-then-is_old : goal.returns-then-is_old
returns-then-is_old c =
    let count = c.byte_or_zero-count.ensures in
    entries-old _ _ c.byte_or_zero-is_old.ensures.0 _ _ count.0 count.1 _ (omega (arith, c.if-is_old.true)) c.old_evidence_count_at.ensures c.old_evidence_entries.ensures

pub returns : goal.returns
returns c =
    let count = c.byte_or_zero-count-2.ensures in
    entries-new _ _ c.byte_or_zero-is_old.ensures.0 _ _ count.0 count.1 _ (omega (arith, c.if-is_old.false)) c.evidence_count_at.ensures c.evidence_entries.ensures
