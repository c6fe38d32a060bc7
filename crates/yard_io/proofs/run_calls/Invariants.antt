use Rattle.std.proofs.Common.{false}
use Rattle.yard_io.specs.Run.{Commands}
use Rattle.yard_io.proofs.run_calls.Given as goal

abbrev pub invariant-loop : goal.invariant-loop
invariant-loop g l = Commands false l.keys l.fn.unit l.fn.store l.fn.out l.r l.store l.out
