use Rattle.protocol.specs.Message.{full_form}
use Rattle.protocol.specs.Certificate.{entry_of}
use Rattle.wire_write.specs.Writing.{certificate_of}
use Rattle.wire_write.specs.WritingLaws.{Going}
use Rattle.wire_write.proofs.write_entries.Given as goal

abbrev pub invariant-loop-s : goal.invariant-loop-s
invariant-loop-s l = Going full_form (entry_of (certificate_of l.n l.c)) l.n l.c.source.seats l.at l.fn.out l.s l.end l.out
