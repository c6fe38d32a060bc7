use Rattle.std.proofs.Common.{◌*◌, ◌/◌, length}
use Rattle.octets.specs.OctetsLaws.{take_rest}
use Rattle.fips180.specs.FipsLaws.{leftover, sha256-ends}
use Rattle.sha256.proofs.hash.sha256.Goals as goal

pub returns : goal.returns
unfolding leftover
returns c =
    let m = c.args.m.now in
    sha256-ends m c.absorb-s.result c.initial_value-h.result c.finish.result
    c.initial_value-h.ensures c.absorb-s.ensures (rw (take_rest (length m / 64 * 64) m) at c.finish.ensures)
