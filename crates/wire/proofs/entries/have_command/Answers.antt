use Rattle.std.proofs.Common.{sym, ◌∙◌, arith}
use borrow.Author.Tests.{eq-eqb, ne_eqb}
use Rattle.protocol.specs.EntriesLaws.{passed_none, passed_next, passed_all, each_not}
use Rattle.wire.proofs.entries.have_command.Goals as goal

pub loop-i-init : goal.loop-i-init
loop-i-init c = passed_none

pub returns-then-command_of_entry-command : goal.returns-then-command_of_entry-command
returns-then-command_of_entry-command c =
    sym (each_not _ c.loop-i.i _ (omega arith) (ne_eqb _ _ (λ q. c.if-command_of_entry-command.true (c.command_of_entry.ensures ∙ q))))

pub loop-i-preserved : goal.loop-i-preserved
loop-i-preserved c = passed_next c.loop-i.invariant (omega arith) (eq-eqb _ _ (sym c.command_of_entry.ensures ∙ c.if-command_of_entry-command.false))

pub returns : goal.returns
returns c = sym (passed_all c.loop-i.invariant (omega arith))
