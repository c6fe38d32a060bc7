use Rattle.std.proofs.Common.{sym, ◌∙◌}
use Rattle.refusal.specs.RefusalLaws.{rows}
use Rattle.protocol.specs.Refusals.{check_conditions}
use Rattle.protocol.specs.Signatures.{check_signature}
use Rattle.lms.specs.VerifyLaws.{key_fits}
use Rattle.lms.specs.CallsLaws.{check_verdict}
use Rattle.lms.proofs.calls.check_signature.Goals as goal

pub returns-then-key_refused : goal.returns-then-key_refused
unfolding check_signature check_conditions
returns-then-key_refused c = search rows

pub returns-then-is_too_long : goal.returns-then-is_too_long
unfolding check_signature check_conditions
returns-then-is_too_long c = search rows

-- the key isn't refused
pub verified-requires : goal.verified-requires
verified-requires c = let known = sym c.key_refused.ensures ∙ c.if-key_refused.false in (key_fits _ known, known)

pub returns : goal.returns
unfolding check_signature check_conditions
returns c = search (rows, check_verdict)
