-- The parts are small, so that nothing overflows.
use native.Mathlib.Omega.{arith}
use borrow.Author.Rules.{rules}
use Rattle.permission_weight.specs.Weight.{weight_of}
use Rattle.permission_weight.specs.Laws.{rank-small, explicit-small}
use Rattle.permission_weight.proofs.weight.Goals as goal

pub overflow_add-result : goal.overflow_add-result
overflow_add-result c = omega (arith, c.rank.ensures, rank-small c.args.who)

pub overflow_mul-result-2 : goal.overflow_mul-result-2
overflow_mul-result-2 c = omega (arith, c.rank.ensures, rank-small c.args.who)

pub overflow_add-result-2 : goal.overflow_add-result-2
overflow_add-result-2 c = omega (arith, c.rank.ensures, c.explicit.ensures, rank-small c.args.who, explicit-small c.args.what)

pub returns : goal.returns
unfolding weight_of
returns c = rw (c.rank.ensures, c.explicit.ensures)
