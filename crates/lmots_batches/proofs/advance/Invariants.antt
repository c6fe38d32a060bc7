use Rattle.std.proofs.Common.{◌≡◌}
use Rattle.octets.specs.Octets.{bytes}
use Rattle.lmots_batches.specs.Batches.{Moved}
use Rattle.lmots_batches.proofs.advance.Given as goal

abbrev pub invariant-loop : goal.invariant-loop
invariant-loop l =
    record {
      same_n : l.gone.n ≡ l.fn.chains.n;
      same_ends : l.gone.ends ≡ l.fn.chains.ends;
      moved : Moved (bytes l.id) l.q l.fn.chains.ends l.fn.chains.places l.fn.z l.gone.places l.z;
    }
