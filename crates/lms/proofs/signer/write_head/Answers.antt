use Rattle.std.proofs.Common.{refl, arith}
use Rattle.octets.specs.Octets.{be}
use Rattle.lms.specs.SignerLaws.{three-writes}
use Rattle.lms.proofs.signer.write_head.Goals as goal

pub returns : goal.returns
unfolding be
returns c =
    three-writes 0 _ _ _ _ _ _ _ 4 8 (omega arith) c.put_word.ensures (rw c.ots_type.ensures at c.put_word-2.ensures) c.copy.ensures refl refl
