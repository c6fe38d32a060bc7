-- The parts of what the step by value answers.
use Rattle.std.proofs.Common.{ap}
use Rattle.protocol.specs.Calls.{answer}
use Rattle.protocol.specs.declared.Stepped.{Stepped}
use Rattle.zolbine.proofs.zolbine_step_lent.Goals as goal

pub returns : goal.returns
unfolding answer
returns c =
    let did = c.step-a.ensures in (
      ap (λ (s : Stepped). s.number) did.0,
      ap (λ (s : Stepped). s.written) did.0,
      ap (λ (s : Stepped). s.unit) did.0,
      did.1,
      did.2,
    )
