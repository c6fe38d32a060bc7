use Rattle.std.proofs.Common.{arith, take_all}
use Rattle.octets.specs.Octets.{part}
use Rattle.fips180.specs.Pieces.{one_block}
use Rattle.sha256.proofs.hash.one_block.Goals as goal

pub returns : goal.returns
unfolding one_block part
returns c = cc (take_all 64 c.args.block.now (omega arith))
