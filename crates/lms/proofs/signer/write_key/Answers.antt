use Rattle.std.proofs.Common.{refl, arith}
use Rattle.octets.specs.Octets.{be}
use Rattle.lms.specs.SignerLaws.{four-writes}
use Rattle.lms.proofs.signer.write_key.Goals as goal

pub returns : goal.returns
unfolding be
returns c =
    four-writes 0 (be 4 6) (be 4 4) _ _ _ _ _ 4 8 (omega arith) (rw c.number.ensures at c.put_word.ensures)
    (rw c.ots_type.ensures at c.put_word-2.ensures) c.copy.ensures refl refl _ _ 24 c.copy-2.ensures (omega arith)
