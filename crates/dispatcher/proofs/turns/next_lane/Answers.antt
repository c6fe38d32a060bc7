use Rattle.dispatch.specs.Turns.{next_lane}
use Rattle.dispatch_claims.specs.CallsLaws.{holds}
use Rattle.dispatcher.specs.TurnsLaws.{chosen}
use Rattle.dispatcher.proofs.turns.next_lane.Goals as goal

pub first_new-requires : goal.first_new-requires
first_new-requires c = (holds c.args.d.now c.requires).few

pub returns-clause-lane : goal.returns-clause-lane
unfolding next_lane
returns-clause-lane c =
    rw (c.or.ensures, chosen c.first_new.result c.longest_ago.result c.first_new.ensures.within, c.first_new.ensures.lane, c.longest_ago.ensures.lane)
