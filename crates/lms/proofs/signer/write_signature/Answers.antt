use Rattle.std.proofs.Common.{rules}
use Rattle.octets.specs.Octets.{bytes}
use Rattle.protocol.specs.Layout.{signature_length}
use Rattle.lms.specs.SignerLaws.{whole-string, signature-written}
use Rattle.lms.proofs.signer.write_signature.Goals as goal

pub write_head-requires : goal.write_head-requires
unfolding signature_length
write_head-requires c = search rules

pub write_values-requires : goal.write_values-requires
unfolding signature_length
write_values-requires c = search rules

pub returns : goal.returns
returns c =
    let args = c.args in
    let id = args.id.now in
    let seed = args.seed.now in
    signature-written id (bytes c.words_at-id_words.result) seed (bytes c.words_at-seed_words.result) args.randomizer.now
    args.message.now args.tree.now args.out.now c.write_head.new.out
    c.write_values.new.out c.write_tail.new.out
    args.leaf c.requires.3 (whole-string id (bytes c.words_at-id_words.result) 16 c.requires.2 c.words_at-id_words.ensures)
    (whole-string seed (bytes c.words_at-seed_words.result) 32 c.requires.1 c.words_at-seed_words.ensures)
    c.write_head.ensures c.write_values.ensures c.write_tail.ensures
