use Rattle.std.proofs.Common.{⊎_elim, arith}
use Rattle.steps.specs.StepsLaws.{nothing-heard}
use Rattle.steps.proofs.phases.step_phase.Goals as goal

pub returns-in-OldEvidence : goal.returns-in-OldEvidence
returns-in-OldEvidence c =
    let args = c.args in
    nothing-heard args.kind args.r args.store.now args.out.now args.message.now c.requires.1
    (⊎_elim (λ e. rw e (omega arith)) (⊎_elim (λ e. rw e (omega arith)) (λ e. rw e (omega arith))) c.in-OldEvidence.is)
