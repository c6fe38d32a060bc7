use Rattle.std.proofs.Common.{arith}
use Rattle.octets.specs.OctetsLaws.{length_part}
use Rattle.octets.specs.Octets.{bytes}
use Rattle.protocol.specs.Layout.{tree_length}
use Rattle.lms.specs.SignerLaws.{whole-string, key_written}
use Rattle.lms.proofs.tree.make.Goals as goal

pub bytes_at-requires : goal.bytes_at-requires
unfolding tree_length
bytes_at-requires c = omega arith

pub write_key-requires : goal.write_key-requires
unfolding tree_length
write_key-requires c = (c.requires.1, rw c.bytes_at.ensures (length_part 32 32 c.fill.new.tree (omega arith)), omega arith)

pub returns : goal.returns
returns c =
    let args = c.args in
    let id = args.id.now in
    let seed = args.seed.now in
    key_written id (bytes c.words_at-id_words.result) seed (bytes c.words_at-seed_words.result) args.tree.now c.fill.new.tree
    c.bytes_at.result.now args.out.now c.write_key.new.out c.requires.2
    (whole-string id (bytes c.words_at-id_words.result) 16 c.requires.1 c.words_at-id_words.ensures)
    (whole-string seed (bytes c.words_at-seed_words.result) 32 c.requires.0 c.words_at-seed_words.ensures)
    c.fill.ensures c.bytes_at.ensures c.write_key.ensures
