use Rattle.std.proofs.Common.{refl, add-one}
use Rattle.probes.specs.Probes.{repeated}
use Rattle.probes.proofs.compress_times.Goals as goal

pub loop-t-init : goal.loop-t-init
unfolding repeated
loop-t-init c = refl

pub loop-t-preserved : goal.loop-t-preserved
unfolding repeated
loop-t-preserved c = rw (c.compress-next.ensures, c.loop-t.invariant, add-one) refl
