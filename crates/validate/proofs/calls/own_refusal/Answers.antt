use Rattle.std.proofs.Common.{sym, ◌∙◌}
use Rattle.refusal.specs.RefusalLaws.{rows}
use Rattle.protocol.specs.Refusals.{said}
use Rattle.protocol.specs.Signatures.{checks}
use Rattle.validate.specs.Calls.{own_conditions}
use Rattle.validate.specs.CallsLaws.{right_lengths, own_verdict}
use Rattle.validate.proofs.calls.own_refusal.Goals as goal

pub returns-then-r : goal.returns-then-r
unfolding own_conditions said
returns-then-r c = search rows

pub returns-then-wrong_lengths : goal.returns-then-wrong_lengths
unfolding own_conditions said
returns-then-wrong_lengths c = search rows

pub seat_verdict-requires : goal.seat_verdict-requires
seat_verdict-requires c =
    let long = right_lengths _ _ (sym c.wrong_lengths.ensures ∙ c.if-wrong_lengths.false) in
    (c.requires.0, long.0, long.1)

pub returns : goal.returns
unfolding own_conditions said
returns c =
    let a = c.args in
    let verdict = own_verdict (checks a.fleet.keys.now a.r.round) a.r a.value.now a.signature.now _ (rw c.requires.1 at c.seat_verdict.ensures) in
    search rows
