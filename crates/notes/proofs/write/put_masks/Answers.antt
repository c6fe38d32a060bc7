use Rattle.std.proofs.Common.{arith}
use Rattle.protocol.specs.Layout.{note_length}
use Rattle.notes.specs.PartsLaws.{masks-written}
use Rattle.notes.proofs.write.put_masks.Goals as goal

pub returns : goal.returns
unfolding note_length
returns c = masks-written c.args.r c.args.out.now (omega (arith, c.requires)) c.put_word.ensures c.put_word-2.ensures c.put_word-3.ensures c.put_word-4.ensures
