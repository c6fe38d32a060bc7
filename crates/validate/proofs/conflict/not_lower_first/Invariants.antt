use Rattle.protocol.specs.EntriesLaws.{Passed}
use Rattle.protocol.specs.Message.{count_of}
use Rattle.signatures.specs.SignaturesLaws.{pair_order}
use Rattle.validate.proofs.conflict.not_lower_first.Given as goal

abbrev pub invariant-loop-t : goal.invariant-loop-t
invariant-loop-t l = Passed (pair_order l.m) (count_of l.m) l.t
