-- `quorum::all` meets its contract: by a shift below the mask's width, and by the mask of ones at that width.
-- Assumes nothing.
use mathlib.Core.Path.{◌≡◌}
use native.Mathlib.Omega.{arith}
use lib.Pow.{pow_pos}
use Rattle.quorum.specs.Quorum.{most_seats, all}
use Rattle.quorum.proofs.all.Statement.{statement}
use Rattle.quorum.proofs.all.Tie as tie

one-requires : tie.Need-one-requires
one-requires c κs = omega arith

sub-result : tie.Need-overflow_sub-result
sub-result c = omega (arith, pow_pos c.before.before.args.n)

returns : tie.Need-returns-then-n-lt-MOST_SEATS
unfolding all
returns c = omega arith

returns-2 : tie.Need-returns-else-n-lt-MOST_SEATS
unfolding all
returns-2 c =
    let widest : c.before.args.n ≡ most_seats = omega arith in
    rw widest

pub all_spec : {M : Type 1} → statement M
all_spec = tie.close (tie.spec one-requires sub-result returns returns-2)
