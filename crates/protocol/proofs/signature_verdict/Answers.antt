use Rattle.protocol.specs.Signatures.{signature_number}
use Rattle.protocol.proofs.signature_verdict.Goals as goal

pub returns-then-accepted : goal.returns-then-accepted
unfolding signature_number
returns-then-accepted c = rw c.if-accepted.true

pub returns-else-accepted : goal.returns-else-accepted
unfolding signature_number
returns-else-accepted c = rw c.if-accepted.false
