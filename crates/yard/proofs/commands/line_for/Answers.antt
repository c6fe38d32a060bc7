use Rattle.std.proofs.Common.{length, sym}
use Rattle.std.proofs.lemmas.Bool.{eqb-true, eqb-false}
use Rattle.yard.specs.CommandsLaws.{line_none, line_some}
use Rattle.yard.proofs.commands.line_for.Goals as goal

pub returns-then-is_empty : goal.returns-then-is_empty
returns-then-is_empty c =
    let args = c.args in
    (line_none args.bytes.now args.number args.written c.no_line.result (eqb-true (length args.bytes.now) 0 (sym c.if-is_empty.ensures)) c.no_line.ensures.0, c.no_line.ensures.1)

pub returns : goal.returns
returns c =
    let args = c.args in
    (line_some args.bytes.now args.number args.written c.line_of.result (eqb-false (length args.bytes.now) 0 (sym c.if-is_empty.ensures)) c.line_of.ensures.0, c.line_of.ensures.1)
