use native.Mathlib.Omega.{arith}
use lib.Count.{trailing_le}
use Rattle.access_set.specs.Laws.Bit.{lowest-trailing}
use Rattle.access_set.proofs.lowest.Goals as goal

pub overflow_cast-result : goal.overflow_cast-result
overflow_cast-result c = omega (arith, trailing_le 64 c.args.x)

pub returns : goal.returns
returns c = lowest-trailing c.args.x c.ranges.x.fits c.requires
