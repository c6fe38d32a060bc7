-- The length by the command, by a law of `FramingLaws` for each.
use Rattle.std.proofs.Common.{arith}
use Rattle.framing.specs.FramingLaws.{frame-submit, frame-notice, frame-full, frame-evidence}
use Rattle.framing.proofs.frame_length.Goals as goal

pub returns-in-1 : goal.returns-in-1
returns-in-1 c = frame-submit _ _ _ c.byte_or_zero.ensures.0 _ c.in-1.is c.submit_length.ensures

pub returns-in-2 : goal.returns-in-2
returns-in-2 c = frame-notice _ _ _ c.byte_or_zero.ensures.0 _ (omega arith) c.in-2.is c.notice_length.ensures

pub returns-in-3 : goal.returns-in-3
returns-in-3 c = frame-full _ _ _ c.byte_or_zero.ensures.0 _ (omega arith) (omega arith) c.requires.1 c.in-3.is c.full_length.ensures

pub returns-in_default : goal.returns-in_default
returns-in_default c =
    frame-evidence _ _ _ c.byte_or_zero.ensures.0 _ (omega arith) (omega arith) (omega arith) _ c.evidence_entries-found.ensures.0 c.evidence_entries-found.ensures.1 c.entry_at.ensures
