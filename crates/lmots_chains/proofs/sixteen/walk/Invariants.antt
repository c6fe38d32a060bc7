use Rattle.std.proofs.Common.{◌≡◌}
use Rattle.lmots_chains.specs.Sixteen.{AllWalked}
use Rattle.lmots_chains.proofs.sixteen.walk.Given as goal

abbrev pub invariant-loop-t : goal.invariant-loop-t
invariant-loop-t l = record {
  same : l.lanes.shares ≡ l.initial.lanes.shares;
  walked : AllWalked l.places.words l.t l.initial.lanes.schedule l.initial.lanes.shares l.initial.lanes.state l.initial.v l.lanes.schedule l.lanes.state l.v;
}
