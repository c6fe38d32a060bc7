use borrow.Author.Tests.{eq-eqb, ne_eqb}
use Rattle.rfc8554.specs.Verify.{level_up}
use Rattle.lms.proofs.verify.level_up.Goals as goal

pub returns-then-r-eq1 : goal.returns-then-r-eq1
unfolding level_up
returns-then-r-eq1 c = rw (eq-eqb _ _ c.if-r-eq1.true) c.parent.ensures

pub returns : goal.returns
unfolding level_up
returns c = rw (ne_eqb _ _ c.if-r-eq1.false) c.parent-2.ensures
