use Rattle.std.proofs.Common.{◌∙◌}
use Rattle.protocol.specs.Message.{read_round}
use Rattle.wire.proofs.read.round_of.Goals as goal

pub returns : goal.returns
unfolding read_round
returns c = c.from.ensures ∙ c.from_be_bytes.ensures ∙ rw c.round_at-at.ensures
