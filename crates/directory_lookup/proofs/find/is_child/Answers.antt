use mathlib.Core.Path.{sym, ap, ◌∙◌}
use native.Mathlib.Omega.{arith}
use borrow.Author.Tests.{not-true}
use Rattle.tables.specs.Laws.World.{entry_at}
use Rattle.name.specs.Schema.{equal_by}
use Rattle.directory_lookup.specs.Laws.Find.{unlike, child-of-other, child-by-other, child-by-value}
use Rattle.directory_lookup.proofs.find.is_child.Goals as goal

pub returns-then-book-k : goal.returns-then-book-k
returns-then-book-k c = let a = c.args in sym (child-of-other a.book.now a.d.now a.k a.parent a.t a.s a.v.now c.if-book-k.true)

pub returns-then-t-book : goal.returns-then-t-book
returns-then-t-book c = let a = c.args in sym (child-by-other a.book.now a.d.now a.k a.parent a.t a.s a.v.now c.if-book-k.false c.if-t-book.true)

pub naming_value-u-requires : goal.naming_value-u-requires
naming_value-u-requires c =
    let P = c.requires in
    let h = P.0.3 in
    (omega (arith, P.1, h.fits.few-entries), omega (arith, (entry_at h c.args.k P.1).within))

pub returns-then-not-same : goal.returns-then-not-same
returns-then-not-same c =
    let a = c.args in
    sym (unlike a.s a.v.now _ (sym c.same.ensures ∙ not-true _ c.if-not-same.true-raw))
    ∙ ap (equal_by a.s a.v.now) c.naming_value-u.ensures
    ∙ sym (child-by-value a.book.now a.d.now a.k a.parent a.t a.s a.v.now c.if-book-k.false c.if-t-book.false)

pub returns : goal.returns
returns c =
    let a = c.args in
    c.equal_by.ensures
    ∙ ap (equal_by a.s a.v.now) c.naming_value-u.ensures
    ∙ sym (child-by-value a.book.now a.d.now a.k a.parent a.t a.s a.v.now c.if-book-k.false c.if-t-book.false)
