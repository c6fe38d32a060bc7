use Rattle.std.proofs.Common.{arith}
use Rattle.protocol.specs.Layout.{signature_length, evidence_entry_length}
use Rattle.protocol.specs.Entries.{render_entry}
use Rattle.protocol.specs.Message.{evidence_form}
use Rattle.wire_write.specs.WritingLaws.{wrote_then}
use Rattle.wire_write.proofs.write_pair.Goals as goal

pub put_tag-a-requires : goal.put_tag-a-requires
unfolding signature_length evidence_entry_length
put_tag-a-requires c = omega arith

pub put-b-requires : goal.put-b-requires
unfolding signature_length evidence_entry_length
put-b-requires c = omega arith

pub put-c-requires : goal.put-c-requires
unfolding signature_length evidence_entry_length
put-c-requires c = omega arith

pub put-d-requires : goal.put-d-requires
unfolding signature_length evidence_entry_length
put-d-requires c = omega arith

pub put-requires : goal.put-requires
unfolding signature_length evidence_entry_length
put-requires c = omega arith

pub returns : goal.returns
unfolding render_entry evidence_form
returns c =
    let one = wrote_then c.put_tag-a.ensures c.put-b.ensures (omega arith) in
    let two = wrote_then one c.put-c.ensures (omega arith) in
    let three = wrote_then two c.put-d.ensures (omega arith) in
    wrote_then three c.put.ensures (omega arith)
