use Rattle.std.proofs.Common.{◌∙◌}
use Rattle.probes.specs.ProbesLaws.{constants-short, constants-fit}
use Rattle.probes.proofs.probe_round_constants.Goals as goal

pub returns-then-out-lt256-clause-value : goal.returns-then-out-lt256-clause-value
returns-then-out-lt256-clause-value c =
    let a = c.args in
    c.number.ensures ∙ (constants-short a.out.now c.if-out-lt256.true).0

pub returns-then-out-lt256-clause-out_after : goal.returns-then-out-lt256-clause-out_after
returns-then-out-lt256-clause-out_after c =
    let a = c.args in
    (constants-short a.out.now c.if-out-lt256.true).1

pub returns-clause-value : goal.returns-clause-value
returns-clause-value c =
    let a = c.args in
    (constants-fit a.out.now _ _ c.if-out-lt256.false c.round_constants-k.result.standard c.put_words.ensures).0

pub returns-clause-out_after : goal.returns-clause-out_after
returns-clause-out_after c =
    let a = c.args in
    (constants-fit a.out.now _ _ c.if-out-lt256.false c.round_constants-k.result.standard c.put_words.ensures).1
