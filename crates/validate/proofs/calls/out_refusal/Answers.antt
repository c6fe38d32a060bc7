use Rattle.refusal.specs.RefusalLaws.{rows}
use Rattle.validate.proofs.calls.out_refusal.Goals as goal

pub returns-then-short_out : goal.returns-then-short_out
returns-then-short_out c = search rows

pub returns : goal.returns
returns c = search rows
