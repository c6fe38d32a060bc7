use Rattle.std.proofs.Common.{arith}
use Rattle.protocol.specs.Layout.{signature_length, full_entry_length}
use Rattle.protocol.specs.Entries.{render_entry}
use Rattle.protocol.specs.Message.{full_form}
use Rattle.wire_write.specs.WritingLaws.{wrote_then}
use Rattle.wire_write.proofs.write_entry.Goals as goal

pub put_tag-a-requires : goal.put_tag-a-requires
unfolding signature_length full_entry_length
put_tag-a-requires c = omega arith

pub put-requires : goal.put-requires
unfolding signature_length full_entry_length
put-requires c = omega arith

pub returns : goal.returns
unfolding render_entry full_form
returns c = wrote_then c.put_tag-a.ensures c.put.ensures (omega (arith, c.requires))
