use native.Mathlib.Omega.{arith}
use mathlib.Core.Path.{refl}
use Rattle.tables.specs.Book.{width}
use Rattle.answer_information.specs.Laws.Values.{lines-not, lines-some}
use Rattle.answer_information.specs.Laws.Rows.{type-number}
use Rattle.answer_information.proofs.values.emit_readable.Goals as goal

pub size-requires : goal.size-requires
size-requires c = omega (arith, c.requires.0.2.entries.fits.wide)

pub overflow_add-at : goal.overflow_add-at
overflow_add-at c = let P = c.requires in omega (arith, c.size.ensures, P.2, P.0.2.entries.fits.wide)

pub emit_values-st-requires : goal.emit_values-st-requires
emit_values-st-requires c = let P = c.requires in (P.0, P.1, omega (arith, c.size.ensures, P.2, P.0.2.entries.fits.wide))

pub returns-then-st-eq0 : goal.returns-then-st-eq0
returns-then-st-eq0 c = let a = c.args in
    (omega arith, λ σ es W. lines-not (width a.book.now) a.out.now a.at _ _ _ _ refl (c.emit_values-st.ensures.1 σ es W) c.if-st-eq0.true)

pub overflow_add-rank : goal.overflow_add-rank
overflow_add-rank c = omega (arith, c.requires.1.rank, c.requires.0.2.entries.fits.few-types)

pub offset_bounds-book-rank : goal.offset_bounds-book-rank
offset_bounds-book-rank c = omega (arith, c.requires.1.rank, c.requires.0.2.entries.fits.few-types)

pub bounds-book-rank : goal.bounds-book-rank
bounds-book-rank c = omega (arith, c.requires.1.rank, c.requires.0.2.entries.fits.few-types)

pub emit-requires : goal.emit-requires
emit-requires c = let P = c.requires in let F = P.0.2.entries.fits in (omega (arith, F.narrow), F.wide, omega (arith, P.2))

pub returns : goal.returns
returns c = let P = c.requires in
    let a = c.args in
    let n = c.size.ensures in
    let p = c.emit_values-st.ensures in (
      omega (arith, n, P.0.2.entries.fits.wide, P.1.rising, p.0),
      λ σ es W. lines-some (width a.book.now) a.out.now a.at _ _ _ _ refl (p.1 σ es W) c.if-st-eq0.false (omega (arith, n)) _ (type-number W.entries a.run.rank P.1.rank) c.emit.ensures,
    )
