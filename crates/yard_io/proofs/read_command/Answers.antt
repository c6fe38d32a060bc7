use Rattle.std.proofs.Common.{arith, ◌≡◌}
use Rattle.std.proofs.lemmas.Result.{IfOk-weaker}
use Rattle.yard_io.specs.ReadingLaws.{command_none, command-short, command-whole}
use Rattle.yard_io.proofs.read_command.Goals as goal

pub returns-then-one-eq0-clause-ok : goal.returns-then-one-eq0-clause-ok
returns-then-one-eq0-clause-ok g c = command_none c.args.first

pub returns-then-have-start-clause-ok : goal.returns-then-have-start-clause-ok
returns-then-have-start-clause-ok g c =
    let only : c.in_ok-one.one ≡ 1 = omega (arith, c.in_ok-one.ensures.ok.most) in
    command-short c.args.first only c.told_length-start.ensures.0 c.in_ok-have.ensures.ok c.if-have-start.true

pub returns-clause-ok : goal.returns-clause-ok
returns-clause-ok g c =
    let only : c.in_ok-one.one ≡ 1 = omega (arith, c.in_ok-one.ensures.ok.most) in
    IfOk-weaker c.read_on-3.result _ _
    (λ r more. command-whole c.args.first only c.told_length-start.ensures.0 c.in_ok-have.ensures.ok
    c.if-have-start.false c.told_length-whole.ensures.0 more)
    c.read_on-3.ensures.ok
