use Rattle.sha256_lanes.specs.RowsLaws.{common_by}
use Rattle.sha256_lanes.proofs.Lanes.begin.Goals as goal

pub returns-clause-common : goal.returns-clause-common
returns-clause-common c =
    common_by c.args.h c.args.self.now.schedule c.shares.new.x c.save.new.x c.start.new.s c.rounds.new.s c.rounds-2.new.s c.shares.ensures c.requires
    c.start.ensures c.rounds.ensures.unchanged c.rounds.ensures.rounded c.rounds-2.ensures.unchanged c.rounds-2.ensures.rounded
    c.save.ensures.same c.save.ensures.by_index
