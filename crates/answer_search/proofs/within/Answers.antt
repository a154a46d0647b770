use Prim.Native.Nat.{ℕ}
use mathlib.Core.Path.{ap, ◌∙◌}
use native.Mathlib.Omega.{arith}
use lib.Dec.{eqb}
use Rattle.tables.specs.Laws.World.{parent_is}
use Rattle.answer_search.specs.Laws.Hits.{within-base, within-children, within-below}
use Rattle.answer_search.proofs.within.Goals as goal

pub overflow_add-result : goal.overflow_add-result
overflow_add-result c = let E = c.requires.1.4 in omega (arith, c.requires.0, E.fits.few-entries, E.fits.size)

pub returns-then-subset-eq-BASE : goal.returns-then-subset-eq-BASE
returns-then-subset-eq-BASE c = let A = c.args in λ σ es d held E. within-base es A.subset A.b A.k c.if-subset-eq-BASE.true

pub overflow_add-result-then-subset-eq-ONE_LEVEL : goal.overflow_add-result-then-subset-eq-ONE_LEVEL
overflow_add-result-then-subset-eq-ONE_LEVEL c = let E = c.requires.1.4 in omega (arith, c.requires.0, E.fits.few-entries, E.fits.size)

pub offset_bounds-book-k : goal.offset_bounds-book-k
offset_bounds-book-k c = let E = c.requires.1.4 in omega (arith, c.requires.0, E.fits.few-entries, E.fits.size)

pub bounds-book-k : goal.bounds-book-k
bounds-book-k c = let E = c.requires.1.4 in omega (arith, c.requires.0, E.fits.few-entries, E.fits.size)

pub returns-then-subset-eq-ONE_LEVEL : goal.returns-then-subset-eq-ONE_LEVEL
returns-then-subset-eq-ONE_LEVEL c = let A = c.args in λ σ es d held E. ap (λ (x : ℕ). eqb x A.b) (parent_is E A.k c.requires.0) ∙ within-children es A.subset A.b A.k c.if-subset-eq-BASE.false c.if-subset-eq-ONE_LEVEL.true

pub overflow_add-k : goal.overflow_add-k
overflow_add-k c = let E = c.requires.1.4 in omega (arith, c.requires.0, E.fits.few-entries, E.fits.size)

pub climbs-requires : goal.climbs-requires
climbs-requires c = ((c.requires.1.2, (c.requires.1.0, c.requires.1.1, c.requires.1.3, c.requires.1.4)), omega (arith, c.requires.0))

pub returns : goal.returns
returns c = let A = c.args in λ σ es d held E. c.climbs.ensures σ es d held E ∙ within-below es A.subset A.b A.k c.if-subset-eq-BASE.false c.if-subset-eq-ONE_LEVEL.false
