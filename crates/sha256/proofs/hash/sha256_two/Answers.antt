use Rattle.std.proofs.Common.{◌*◌, ◌/◌, length}
use Rattle.octets.specs.OctetsLaws.{take_rest}
use Rattle.fips180.specs.FipsLaws.{leftover, sha256-ends-two}
use Rattle.sha256.proofs.hash.sha256_two.Goals as goal

pub returns-then-a-at-lt64 : goal.returns-then-a-at-lt64
unfolding leftover
returns-then-a-at-lt64 c =
    let a = c.args.a.now in
    sha256-ends-two a c.args.b.now c.absorb-s.result c.initial_value-h.result c.finish_short.result
    c.initial_value-h.ensures c.absorb-s.ensures (rw (take_rest (length a / 64 * 64) a) at c.finish_short.ensures)

pub returns-else-a-at-lt64 : goal.returns-else-a-at-lt64
unfolding leftover
returns-else-a-at-lt64 c =
    let a = c.args.a.now in
    sha256-ends-two a c.args.b.now c.absorb-s.result c.initial_value-h.result c.finish_long.result
    c.initial_value-h.ensures c.absorb-s.ensures (rw (take_rest (length a / 64 * 64) a) at c.finish_long.ensures)
