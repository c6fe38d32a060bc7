use Rattle.wire_write.specs.Writing.{certificate_of}
use Rattle.wire_write.specs.WritingLaws.{given-lower, given-higher}
use Rattle.wire_write.proofs.write_evidence.Goals as goal

pub returns-then-lower : goal.returns-then-lower
returns-then-lower c =
    let args = c.args in
    (given-lower args.n args.round args.mask (certificate_of args.n args.a) (certificate_of args.n args.b) c.lower.ensures c.if-lower.true c.write_ordered.ensures.0, c.write_ordered.ensures.1)

pub write_ordered-requires-2 : goal.write_ordered-requires-2
write_ordered-requires-2 c =
    let pre = c.requires in
    (pre.0, pre.2, pre.1, pre.3, pre.5, pre.4, pre.6)

pub returns : goal.returns
returns c =
    let args = c.args in
    (given-higher args.n args.round args.mask (certificate_of args.n args.a) (certificate_of args.n args.b) c.lower.ensures c.if-lower.false c.write_ordered-2.ensures.0, c.write_ordered-2.ensures.1)
