use Rattle.std.proofs.Common.{arith}
use Rattle.signatures.specs.SeatsLaws.{seat-signed}
use Rattle.signatures.proofs.verdicts.signed_bytes.Goals as goal

pub returns : goal.returns
returns c =
    seat-signed c.args.value.now _ _ c.copy.new.out c.args.round c.args.seat c.requires.0 c.requires.1 c.put_word.ensures c.copy.ensures (omega arith)
