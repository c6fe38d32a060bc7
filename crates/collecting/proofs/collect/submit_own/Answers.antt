use Rattle.std.proofs.Common.{arith}
use Rattle.collecting.specs.CollectingLaws.{value-set-fits, own-submitted}
use Rattle.collecting.proofs.collect.submit_own.Goals as goal

pub collect-unit-requires : goal.collect-unit-requires
collect-unit-requires c =
    let told = c.set_own_value-said in
    let fits = value-set-fits c.args.r _ told.result told.ensures c.args.store.now c.requires.0 in
    (fits.0, fits.1, c.requires.2)

pub returns : goal.returns
returns c =
    let args = c.args in
    let told = c.set_own_value-said in
    let wrote = c.write_submit-at in (
      own-submitted args.r _ told.result told.ensures args.value.now args.signature.now args.store.now args.out.now c.requires.1 c.value_at.ensures
          _ _ wrote.new.out wrote.result c.collect-unit.ensures wrote.ensures.0,
      omega (arith, wrote.ensures.1),
    )
