use Rattle.quorum.specs.Quorum.{union}
use Rattle.protocol.specs.Message.{read}
use Rattle.protocol.specs.Joining.{joined_pair}
use Rattle.wire_write.specs.WritingLaws.{Going}
use Rattle.joining.specs.PacksLaws.{form}
use Rattle.joining.proofs.entries.write_entries.Given as goal

-- the entries of the seats passed are written
abbrev pub invariant-loop-s : goal.invariant-loop-s
invariant-loop-s l = Going form (joined_pair (read l.n l.first) (read l.n l.second)) l.n (union l.a l.b) l.at l.fn.out l.s l.end l.out
