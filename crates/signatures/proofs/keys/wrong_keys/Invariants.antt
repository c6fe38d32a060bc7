use Rattle.std.specs.Prelude.{ℕ}
use Rattle.protocol.specs.EntriesLaws.{Passed}
use Rattle.protocol.specs.Refusals.{key_allowed}
use Rattle.signatures.proofs.keys.wrong_keys.Given as goal

abbrev pub invariant-loop-seat : goal.invariant-loop-seat
invariant-loop-seat l = Passed (λ (s : ℕ). key_allowed s l.keys) l.n l.seat
