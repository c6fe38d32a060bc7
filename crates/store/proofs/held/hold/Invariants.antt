use Rattle.store.specs.Sources.{bytes_of, signature_from}
use Rattle.store.specs.StoreLaws.{Holding}
use Rattle.store.proofs.held.hold.Given as goal

abbrev pub invariant-loop-s : goal.invariant-loop-s
invariant-loop-s l = Holding l.n l.source.seats (signature_from l.n l.source (bytes_of l.source.place l.fn.store l.m)) l.fn.store l.s l.store
