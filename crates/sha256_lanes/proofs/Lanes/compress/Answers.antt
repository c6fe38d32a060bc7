use Rattle.sha256_lanes.specs.RowsLaws.{compressed_by}
use Rattle.sha256_lanes.proofs.Lanes.compress.Goals as goal

pub returns-clause-compressed : goal.returns-clause-compressed
returns-clause-compressed c =
    compressed_by c.args.self.now.schedule c.args.self.now.shares c.schedule.new.w c.args.self.now.state c.resume.new.s c.rounds.new.s c.sums.new.v
    c.schedule.ensures.same c.schedule.ensures.w_after c.resume.ensures.unchanged c.resume.ensures.resumed c.rounds.ensures.unchanged
    c.rounds.ensures.rounded c.sums.ensures
