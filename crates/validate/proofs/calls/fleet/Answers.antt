use Rattle.std.proofs.Common.{◌≡◌, refl}
use Rattle.refusal.specs.Refusal.{first_of}
use Rattle.refusal.specs.RefusalLaws.{rows}
use Rattle.protocol.specs.Refusals.{outside_conditions}
use Rattle.validate.specs.GivenLaws.{outside-given}
use Rattle.validate.proofs.calls.fleet.Goals as goal

pub returns-then-wrong_size-clause-number : goal.returns-then-wrong_size-clause-number
unfolding outside_conditions
returns-then-wrong_size-clause-number c = search rows

pub returns-then-wrong_round-clause-number : goal.returns-then-wrong_round-clause-number
unfolding outside_conditions
returns-then-wrong_round-clause-number c = search rows

pub returns-then-wrong_keys-clause-number : goal.returns-then-wrong_keys-clause-number
unfolding outside_conditions
returns-then-wrong_keys-clause-number c = search rows

pub invariant_of-result : goal.invariant_of-result
unfolding outside_conditions
invariant_of-result c =
    let none : 0 ≡ first_of (outside_conditions c.args.n c.args.round c.args.keys.now) = search rows in
    record { given = outside-given _ _ _ 0 none refl }

pub returns-clause-number : goal.returns-clause-number
unfolding outside_conditions
returns-clause-number c = search rows
