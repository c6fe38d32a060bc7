use Rattle.std.proofs.Common.{◌≤◌, length, ◌∙◌, arith}
use Rattle.quorum.specs.QuorumLaws.{size_le, length-seats}
use Rattle.protocol.specs.Layout.{notice_length, full_entry_at}
use Rattle.protocol.specs.Message.{full_form, render}
use Rattle.protocol.specs.Certificate.{entry_of, entries_of, full_of}
use Rattle.wire_write.specs.Writing.{head, certificate_of}
use Rattle.wire_write.specs.WritingLaws.{wrote_then, list_written}
use Rattle.wire_write.proofs.write_full.Goals as goal

pub write_head-a-requires : goal.write_head-a-requires
unfolding notice_length full_entry_at
write_head-a-requires c = omega arith

pub overflow_cast-count : goal.overflow_cast-count
overflow_cast-count c = omega (arith, size_le c.args.n c.args.c.source.seats c.requires.2.inside)

pub put_byte-b-requires : goal.put_byte-b-requires
unfolding notice_length full_entry_at
put_byte-b-requires c = omega arith

pub write_entries-requires : goal.write_entries-requires
unfolding notice_length full_entry_at
write_entries-requires c = (c.requires.0, c.requires.2, rw (length-seats c.args.n c.args.c.source.seats c.requires.2.inside) (omega arith))

pub returns : goal.returns
unfolding notice_length full_entry_at render full_of entries_of
returns c =
    let args = c.args in
    let n = args.n in
    let mask = args.c.source.seats in
    let room : args.at ≤ length args.out.now = omega arith in
    let inside = c.requires.2.inside in (
      list_written full_form (entry_of (certificate_of n args.c)) n mask (head 0x03 args.round args.sender args.c.value)
          (wrote_then c.write_head-a.ensures.0 c.put_byte-b.ensures room) c.write_entries.ensures.0 room inside c.size-count.ensures,
      c.write_entries.ensures.1 ∙ rw (length-seats n mask inside) (omega arith),
    )
