use Rattle.std.proofs.Common.{arith}
use Rattle.tables.specs.Laws.World.{rank-within}
use Rattle.answer_compare.specs.Laws.Compare.{type-is}
use Rattle.answer_compare.proofs.row_type.Goals as goal

pub returns : goal.returns
returns c = let A = c.args in let E = c.requires.0.3.2.entries in type-is E _ (rank-within E A.k c.requires.1 A.i c.requires.2 c.requires.3)

pub overflow_add-result : goal.overflow_add-result
overflow_add-result c = let A = c.args in let E = c.requires.0.3.2.entries in omega (arith, rank-within E A.k c.requires.1 A.i c.requires.2 c.requires.3, E.fits.few-types)

pub offset_bounds-book-held : goal.offset_bounds-book-held
offset_bounds-book-held c = let A = c.args in let E = c.requires.0.3.2.entries in omega (arith, rank-within E A.k c.requires.1 A.i c.requires.2 c.requires.3, E.fits.few-types)

pub bounds-book-held : goal.bounds-book-held
bounds-book-held c = let A = c.args in let E = c.requires.0.3.2.entries in omega (arith, rank-within E A.k c.requires.1 A.i c.requires.2 c.requires.3, E.fits.few-types)
