use Rattle.std.proofs.Common.{◌∷◌, ◌≤◌, length, arith}
use Rattle.octets.specs.Octets.{be}
use Rattle.quorum.specs.QuorumLaws.{size_le, length-seats}
use Rattle.protocol.specs.Layout.{evidence_entry_at, evidence_length}
use Rattle.protocol.specs.Message.{ValuesEach, evidence_form, render}
use Rattle.protocol.specs.Certificate.{pair_of, pairs_of, ordered_evidence}
use Rattle.wire_write.specs.Writing.{certificate_of}
use Rattle.wire_write.specs.WritingLaws.{list_written}
use Rattle.wire_write.proofs.write_ordered.Goals as goal

pub write_pack_head-a-requires : goal.write_pack_head-a-requires
unfolding evidence_length evidence_entry_at
write_pack_head-a-requires c =
    (omega (arith, c.requires.0, c.size-count.ensures, size_le c.args.n c.args.mask c.requires.3), omega (arith, c.requires.6))

pub write_pairs-requires : goal.write_pairs-requires
unfolding evidence_length evidence_entry_at
write_pairs-requires c =
    let pre = c.requires in
    (pre.0, pre.4, pre.1, pre.5, pre.2, rw (length-seats c.args.n c.args.mask pre.3) (omega (arith, pre.6, c.write_pack_head-a.ensures.1, c.write_pack_head-a.auto)))

pub returns : goal.returns
unfolding evidence_length evidence_entry_at render ordered_evidence pairs_of be
returns c =
    let args = c.args in
    let n = args.n in
    let room : args.at ≤ length args.out.now = omega (arith, c.requires.6) in (
      list_written (evidence_form ValuesEach) (pair_of (certificate_of n args.lower) (certificate_of n args.higher)) n args.mask (0x07 ∷ be 2 args.round) c.write_pack_head-a.ensures.0 c.write_pairs.ensures.0 room c.requires.3 c.size-count.ensures,
      omega (arith, rw (length-seats n args.mask c.requires.3) at c.write_pairs.ensures.1, c.write_pack_head-a.ensures.1),
    )
