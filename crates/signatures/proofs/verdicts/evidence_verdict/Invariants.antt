use Rattle.protocol.specs.EntriesLaws.{Passed}
use Rattle.protocol.specs.Message.{count_of}
use Rattle.protocol.specs.Signatures.{checks}
use Rattle.signatures.specs.SignaturesLaws.{pair_check}
use Rattle.signatures.proofs.verdicts.evidence_verdict.Given as goal

abbrev pub invariant-loop-t : goal.invariant-loop-t
invariant-loop-t l = Passed (pair_check (checks l.fleet.keys.now l.fleet.round) l.m) (count_of l.m) l.t
