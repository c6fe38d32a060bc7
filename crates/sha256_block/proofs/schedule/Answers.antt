use Rattle.std.proofs.Common.{refl, ap, ℕ, ◌≡◌, ◌-◌, ◌∙◌, List, arith, rules, take}
use Rattle.octets.specs.OctetsLaws.{whole_from_take}
use Rattle.fips180.specs.Fips.{schedule}
use Rattle.fips180.specs.FipsLaws.{schedule_next}
use Rattle.sha256_block.proofs.schedule.Goals as goal

pub loop-t-init : goal.loop-t-init
unfolding schedule
loop-t-init c = record { long = search rules; filled = refl }

pub loop-t-preserved : goal.loop-t-preserved
loop-t-preserved c = record {
  long = search rules;
  filled = schedule_next _ _ _ _ (omega arith) c.loop-t.invariant.filled (omega arith) c.scheduled.ensures;
}

pub returns : goal.returns
returns c =
    let m = take 16 c.first_words-w.result in
    let all : c.loop-t.t ≡ 64 = omega arith in
    whole_from_take _ (λ (t : ℕ). schedule m (t - 16)) _ 64 all c.loop-t.invariant.long c.loop-t.invariant.filled
    ∙ ap (λ (l : List ℕ). schedule l 48) c.first_words-w.ensures
