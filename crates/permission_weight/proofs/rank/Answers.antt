-- By the test.
use borrow.Author.Tests.{le-leb, lt-leb}
use Rattle.permission_weight.specs.Weight.{rank_of}
use Rattle.permission_weight.proofs.rank.Goals as goal

pub returns-then-who-ge-ENTRY_ITSELF : goal.returns-then-who-ge-ENTRY_ITSELF
unfolding rank_of
returns-then-who-ge-ENTRY_ITSELF c = rw (le-leb 2 _ c.if-who-ge-ENTRY_ITSELF.true)

pub returns : goal.returns
unfolding rank_of
returns c = rw (lt-leb 2 _ c.if-who-ge-ENTRY_ITSELF.false)
