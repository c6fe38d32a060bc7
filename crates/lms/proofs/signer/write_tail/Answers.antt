use Rattle.std.proofs.Common.{refl, arith}
use Rattle.octets.specs.Octets.{be}
use Rattle.octets.specs.WriteLaws.{patch_next}
use Rattle.protocol.specs.Layout.{signature_length}
use Rattle.lms.proofs.signer.write_tail.Goals as goal

pub returns : goal.returns
unfolding be signature_length
returns c = patch_next 1128 1132 (be 4 6) _ _ _ _ (rw c.number.ensures at c.put_word.ensures) refl (omega arith) c.write_path.ensures
