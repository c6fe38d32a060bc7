-- The length, by the first bytes.
use Rattle.std.proofs.Common.{arith}
use Rattle.framing.specs.FramingLaws.{length_none, length-many, length-short, length-kind}
use Rattle.framing.proofs.message_length.Goals as goal
use Rattle.framing.proofs.message_length.Goals.{then-n-eq0-via-then-n-eq0, then-n-eq0-via-else-n-eq0+then-n-gt-MOST_SEATS}

pub returns-then-n-eq0 : goal.returns-then-n-eq0
returns-then-n-eq0 c =
    elim c.then-n-eq0.branch [
      | then-n-eq0-via-then-n-eq0 w ↦ length_none c.args.n c.args.bytes.now w.if-n-eq0.true
      | then-n-eq0-via-else-n-eq0+then-n-gt-MOST_SEATS w ↦ length-many c.args.n c.args.bytes.now w.if-n-eq0.false (omega arith)
    ]

pub returns-then-bytes-end : goal.returns-then-bytes-end
returns-then-bytes-end c =
    let args = c.args in
    length-short args.n args.bytes.now c.if-n-eq0.false (omega arith) c.frame_length-end.result c.frame_length-end.ensures.0 c.if-bytes-end.true

pub returns-then-is_garbled : goal.returns-then-is_garbled
returns-then-is_garbled c =
    let args = c.args in
    rw c.if-is_garbled.true at
    (length-kind args.n args.bytes.now c.if-n-eq0.false (omega arith) c.frame_length-end.result c.frame_length-end.ensures.0 c.if-bytes-end.false
    c.classify-kind.result c.classify-kind.ensures c.is_garbled.result c.is_garbled.ensures)

pub returns : goal.returns
returns c =
    let args = c.args in
    rw c.if-is_garbled.false at
    (length-kind args.n args.bytes.now c.if-n-eq0.false (omega arith) c.frame_length-end.result c.frame_length-end.ensures.0 c.if-bytes-end.false
    c.classify-kind.result c.classify-kind.ensures c.is_garbled.result c.is_garbled.ensures)
