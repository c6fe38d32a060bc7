use Rattle.std.proofs.Common.{refl, ap, ◌≡◌, ◌/◌, ◌∙◌, arith, length}
use Rattle.fips180.specs.Fips.{hashed, absorbed}
use Rattle.fips180.specs.FipsLaws.{hashed_next}
use Rattle.sha256.proofs.hash.absorb.Goals as goal

pub loop-t-init : goal.loop-t-init
unfolding hashed
loop-t-init c = refl

pub loop-t-preserved : goal.loop-t-preserved
loop-t-preserved c = hashed_next _ _ _ _ _ _ c.loop-t.invariant c.block_words.ensures c.compress-next.ensures

pub returns : goal.returns
unfolding absorbed
returns c =
    let all : c.loop-t.t ≡ length c.args.m.now / 64 = omega arith in
    c.loop-t.invariant ∙ ap (hashed c.args.h c.args.m.now) all
