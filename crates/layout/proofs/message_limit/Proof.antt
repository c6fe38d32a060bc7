-- `layout::message_limit` meets its contract.
use mathlib.Core.Path.{refl}
use Rattle.protocol.specs.Layout.{message_limit}
use Rattle.layout.proofs.message_limit.Statement.{statement}
use Rattle.layout.proofs.message_limit.Tie as tie

returns : tie.Need-returns
unfolding message_limit
returns c = refl

pub message_limit_spec : {M : Type 1} → statement M
message_limit_spec = tie.close (tie.spec returns)
