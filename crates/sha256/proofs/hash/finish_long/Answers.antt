use Rattle.std.proofs.Common.{◌-◌, arith, rules, length}
use Rattle.fips180.specs.Fips.{padding}
use Rattle.fips180.specs.FipsLaws.{long-ends}
use Rattle.sha256.proofs.hash.finish_long.Goals as goal

pub returns : goal.returns
returns c =
    let tail = c.args.tail.now in
    let m = c.args.m.now in
    long-ends c.args.h tail m (padding c.args.total) c.joint-block.result c.absorb-s.result
    c.absorb-t.result c.finish.result (64 - length tail) c.joint-block.ensures (search rules) (omega arith) (omega arith)
    c.absorb-s.ensures c.absorb-t.ensures c.finish.ensures
