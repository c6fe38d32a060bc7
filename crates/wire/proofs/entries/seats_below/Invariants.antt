use Rattle.std.specs.Prelude.{ℕ, ltb}
use Rattle.protocol.specs.Message.{byte_at}
use Rattle.protocol.specs.EntriesLaws.{Passed}
use Rattle.wire.specs.Reading.{seat_place}
use Rattle.wire.proofs.entries.seats_below.Given as goal

abbrev pub invariant-loop-i : goal.invariant-loop-i
invariant-loop-i l = Passed (λ (j : ℕ). ltb (byte_at l.m (seat_place l.entries j)) l.n) l.entries.count l.i
