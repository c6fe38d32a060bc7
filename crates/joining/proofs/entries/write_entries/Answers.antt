use Rattle.std.proofs.Common.{arith}
use Rattle.protocol.specs.Layout.{evidence_entry_length}
use Rattle.protocol.specs.Message.{evidence_form}
use Rattle.wire_write.specs.WritingLaws.{going_none, going_done}
use Rattle.joining.specs.PacksLaws.{rest_in_second, room_first, room-second, seat-done}
use Rattle.joining.proofs.entries.write_entries.Goals as goal

pub loop-s-init : goal.loop-s-init
loop-s-init c = going_none (omega arith)

pub write_wanted-end-requires : goal.write_wanted-end-requires
write_wanted-end-requires c =
    let pre = c.requires in
    (pre.0, omega arith, pre.1, λ i. i, room_first _ _ _ _ _ pre.1 pre.2 c.less-rest.ensures c.loop-s.invariant (omega arith) pre.3)

pub write_wanted-end-requires-in-loop-s : goal.write_wanted-end-requires-in-loop-s
write_wanted-end-requires-in-loop-s c =
    let pre = c.requires in
    let alone = c.less-rest.ensures in (
      pre.0,
      omega arith,
      pre.2,
      rest_in_second _ _ _ _ _ pre.1 pre.2 alone c.loop-s.invariant (omega arith) pre.3,
      room-second _ _ _ _ _ pre.1 pre.2 alone c.loop-s.invariant (omega arith) pre.3 c.write_wanted-end.ensures,
    )

pub loop-s-preserved : goal.loop-s-preserved
loop-s-preserved c =
    let pre = c.requires in
    seat-done _ _ _ _ _ pre.1 pre.2 c.less-rest.ensures c.loop-s.invariant (omega arith) pre.3 c.write_wanted-end.ensures c.write_wanted-end-in-loop-s.ensures

pub returns : goal.returns
unfolding evidence_form evidence_entry_length
returns c = going_done c.loop-s.invariant (omega arith)
