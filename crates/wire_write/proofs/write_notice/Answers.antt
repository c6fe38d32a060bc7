use Rattle.protocol.specs.Message.{render}
use Rattle.wire_write.proofs.write_notice.Goals as goal

pub returns : goal.returns
unfolding render
returns c = c.write_head.ensures
