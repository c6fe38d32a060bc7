use Rattle.std.proofs.Common.{◌≡◌}
use Rattle.octets.specs.Octets.{bytes}
use Rattle.rfc8554.specs.Ots.{chain}
use Rattle.lmots_chains.proofs.chain.chain.Given as goal

abbrev pub invariant-loop-t : goal.invariant-loop-t
invariant-loop-t l = bytes l.h ≡ chain (bytes l.id) l.q l.i l.from l.t (bytes l.initial.h)
