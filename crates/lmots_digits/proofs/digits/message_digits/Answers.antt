use Rattle.lmots_digits.specs.DigitLaws.{digested_by}
use Rattle.lmots_digits.proofs.digits.message_digits.Goals as goal

pub returns : goal.returns
returns c = digested_by _ _ _ _ _ _ _ _ c.prefix-start.ensures c.sha256_two-digest.ensures c.with_checksum.ensures
