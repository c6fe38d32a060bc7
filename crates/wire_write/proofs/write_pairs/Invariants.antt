use Rattle.protocol.specs.Message.{ValuesEach, evidence_form}
use Rattle.protocol.specs.Certificate.{pair_of}
use Rattle.wire_write.specs.Writing.{certificate_of}
use Rattle.wire_write.specs.WritingLaws.{Going}
use Rattle.wire_write.proofs.write_pairs.Given as goal

abbrev pub invariant-loop-s : goal.invariant-loop-s
invariant-loop-s l = Going (evidence_form ValuesEach) (pair_of (certificate_of l.n l.lower) (certificate_of l.n l.higher)) l.n l.mask l.at l.fn.out l.s l.end l.out
