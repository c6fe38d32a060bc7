use Rattle.std.proofs.Common.{◌≡◌, ◌-◌}
use Rattle.quorum.specs.Quorum.{k}
use Rattle.protocol.specs.EntriesLaws.{Passed}
use Rattle.protocol.specs.Signatures.{checks}
use Rattle.signatures.specs.SignaturesLaws.{entry_check}
use Rattle.signatures.proofs.verdicts.full_verdict.Given as goal

abbrev pub invariant-loop-entry : goal.invariant-loop-entry
invariant-loop-entry l = record { over : l.reader.full.now ≡ l.m; passed : Passed (entry_check (checks l.fleet.keys.now l.fleet.round) l.m) (k l.fleet.n) l.reader.next }

abbrev pub decreases-loop-entry : goal.decreases-loop-entry
decreases-loop-entry l = k l.fleet.n - l.reader.next
