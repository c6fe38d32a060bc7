use Rattle.std.proofs.Common.{refl}
use Rattle.quorum.specs.Quorum.{t0, k}
use Rattle.protocol.specs.Layout.{signature_length, notice_length, submit_length, full_entry_length, full_entry_at, full_length, evidence_entry_length, evidence_entry_at, evidence_length, out_length}
use Rattle.yard.specs.Commands.{yard_out}
use Rattle.yard.proofs.space.new_out.Goals as goal

pub returns : goal.returns
unfolding yard_out out_length submit_length notice_length full_length full_entry_at full_entry_length evidence_length evidence_entry_at evidence_entry_length signature_length k t0
returns c = refl
