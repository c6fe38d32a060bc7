-- The answer of opening and of reading a note, by its refusal number.
use Rattle.std.specs.Prelude.{◌≡◌, refl, ℕ, Ok, Err}
use Rattle.std.proofs.Common.{ap, sym}
use Rattle.refusal.specs.declared.Refusal.{Refusal}
use Rattle.refusal.specs.Refusal.{unrefused}
use Rattle.refusal.specs.RefusalLaws.{refused-old}
use Rattle.refusal.specs.Answers.{number_of}
use Rattle.refusal.specs.AnswersLaws.{number-nonzero}
use Rattle.protocol.specs.declared.Record.{Record}
use Rattle.protocol.specs.Record.{zeros}
use Rattle.protocol.specs.Calls.{opened_by}
use Rattle.protocol.specs.Answers.{opened_in}

pub opened-refused : (e : Refusal) (n : ℕ) (r : Record) → number_of e ≡ n → opened_in (Err e) ≡ opened_by n r
unfolding opened_by
opened-refused e n r h =
    rw (← h) (ap (λ (u : Record). record { number = number_of e; unit = u }) (sym (refused-old (number_of e) r zeros (number-nonzero e))))

pub opened-given : (n : ℕ) (r : Record) → 0 ≡ n → opened_in (Ok r) ≡ opened_by n r
unfolding opened_by unrefused
opened-given n r h = rw (← h) refl
