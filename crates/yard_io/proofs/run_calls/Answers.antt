use Rattle.yard_io.specs.RunLaws.{commands_none, commands-more, commands-on}
use Rattle.yard_io.proofs.run_calls.Goals as goal

pub loop-init : goal.loop-init
loop-init g c = commands_none

pub returns-then-next-clause-ok : goal.returns-then-next-clause-ok
returns-then-next-clause-ok g c = record { ends = _; commands = commands-more c.loop.invariant c.loop.auto.out c.in_ok-next.ensures.ok }

pub loop-preserved : goal.loop-preserved
loop-preserved g c = commands-on c.if-next.false c.loop.invariant c.loop.auto.out c.in_ok-next.ensures.ok
