use borrow.Author.Tests.{lt-ltb, le-ltb}
use Rattle.name.specs.Schema.{allowed_at}
use Rattle.name.proofs.allowed_at.Goals as goal

pub returns-then-rank-schema : goal.returns-then-rank-schema
unfolding allowed_at
returns-then-rank-schema c = rw (lt-ltb _ _ c.if-rank-schema.true) c.fits.ensures

pub returns : goal.returns
unfolding allowed_at
returns c = rw (le-ltb _ _ c.if-rank-schema.false)
