use Rattle.probes.specs.ProbesLaws.{fleet_none, fleet_too_large, fleet_threshold}
use Rattle.probes.proofs.of_fleet.Goals.{then-n-lt1-via-then-n-lt1, then-n-lt1-via-else-n-lt1+then-n-gt-MOST_SEATS}
use Rattle.probes.proofs.of_fleet.Goals as goal

pub returns-then-n-lt1 : goal.returns-then-n-lt1
returns-then-n-lt1 g c f h =
    elim c.then-n-lt1.branch [
      | then-n-lt1-via-then-n-lt1 w ↦ fleet_none f _ w.if-n-lt1.true
      | then-n-lt1-via-else-n-lt1+then-n-gt-MOST_SEATS w ↦ fleet_too_large f _ w.if-n-lt1.false w.if-n-gt-MOST_SEATS.true
    ]

pub returns : goal.returns
returns g c f h = fleet_threshold f _ c.if-n-lt1.false c.if-n-gt-MOST_SEATS.false _ (h _ c.count.ensures)
