use borrow.Author.Tests.{eq-eqb, ne_eqb, lt-ltb, le-ltb}
use Rattle.access_covers.specs.Enter.{reach_entered}
use Rattle.access_covers.proofs.enter.enter.Goals as goal

pub returns-then-r-lt2 : goal.returns-then-r-lt2
unfolding reach_entered
returns-then-r-lt2 c = rw (lt-ltb _ _ c.if-r-lt2.true)

pub returns-then-r-gt-LAST_REACH : goal.returns-then-r-gt-LAST_REACH
unfolding reach_entered
returns-then-r-gt-LAST_REACH c = rw (le-ltb _ _ c.if-r-lt2.false, lt-ltb _ _ c.if-r-gt-LAST_REACH.true)

pub returns-then-r-eq1 : goal.returns-then-r-eq1
unfolding reach_entered
returns-then-r-eq1 c = rw (le-ltb _ _ c.if-r-lt2.false, le-ltb _ _ c.if-r-gt-LAST_REACH.false, eq-eqb _ _ c.if-r-eq1.true) c.mark.ensures

pub returns : goal.returns
unfolding reach_entered
returns c = rw (le-ltb _ _ c.if-r-lt2.false, le-ltb _ _ c.if-r-gt-LAST_REACH.false, ne_eqb _ _ c.if-r-eq1.false) c.mark-2.ensures
