use Rattle.std.specs.Prelude.{ℕ, eqb}
use Rattle.protocol.specs.Message.{byte_at}
use Rattle.protocol.specs.EntriesLaws.{Passed}
use Rattle.wire.specs.Reading.{command_place}
use Rattle.wire.proofs.entries.have_command.Given as goal

abbrev pub invariant-loop-i : goal.invariant-loop-i
invariant-loop-i l = Passed (λ (j : ℕ). eqb (byte_at l.m (command_place l.entries j)) l.command) l.entries.count l.i
