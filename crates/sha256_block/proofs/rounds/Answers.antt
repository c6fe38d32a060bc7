use Rattle.std.proofs.Common.{refl, ◌+◌, ◌*◌, arith}
use Rattle.fips180.specs.Fips.{rounds}
use Rattle.fips180.specs.FipsLaws.{rounds_next}
use Rattle.sha256_block.proofs.rounds.Goals as goal

pub loop-i-init : goal.loop-i-init
unfolding rounds
loop-i-init c = refl

pub loop-j-preserved : goal.loop-j-preserved
loop-j-preserved c =
    rounds_next _ _ c.args.k.now.words _ _ (8 * c.loop-i.i + c.loop-j.j) _ (omega arith) c.args.k.now.standard c.loop-j.invariant c.round-next.ensures
