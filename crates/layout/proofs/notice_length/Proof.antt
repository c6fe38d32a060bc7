-- `layout::notice_length` meets its contract.
use mathlib.Core.Path.{refl}
use Rattle.protocol.specs.Layout.{notice_length}
use Rattle.layout.proofs.notice_length.Statement.{statement}
use Rattle.layout.proofs.notice_length.Tie as tie

returns : tie.Need-returns
unfolding notice_length
returns c = refl

pub notice_length_spec : {M : Type 1} → statement M
notice_length_spec = tie.close (tie.spec returns)
