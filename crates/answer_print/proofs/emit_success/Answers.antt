use native.Mathlib.Omega.{arith}
use mathlib.Core.Path.{◌≡◌}
use lib.ListN.{length}
use Rattle.tables.specs.Book.{width}
use Rattle.answer_print.specs.Laws.Lines.{success-read, success-compare, success-list, success-search, shown-many, shown-below}
use borrow.Author.Rules.{rules}
use Rattle.answer_print.proofs.emit_success.Goals as goal

pub emit_found-requires : goal.emit_found-requires
emit_found-requires c = let P = c.requires in (P.0, omega (arith, P.2), omega (arith, P.1.name, P.1.entry), omega (arith, P.1.name, P.1.entry), P.3)

pub returns-then-plan-eq-READ : goal.returns-then-plan-eq-READ
returns-then-plan-eq-READ c = let a = c.args in λ σ es s W C. success-read σ es s (width a.book.now) a.out.now a.at a.plan a.hits.now c.if-plan-eq-READ.true (c.emit_found.ensures.1 σ es s W C)

pub emit-requires : goal.emit-requires
emit-requires c = let P = c.requires in let F = P.0.2.entries.fits in (omega (arith, F.narrow), F.wide, omega (arith, P.2))

pub returns-then-plan-eq-COMPARE : goal.returns-then-plan-eq-COMPARE
returns-then-plan-eq-COMPARE c = let a = c.args in λ σ es s W C. success-compare σ es s (width a.book.now) a.out.now a.at a.plan a.hits.now c.if-plan-eq-COMPARE.true c.emit.ensures

pub slice_bounds-emit_children-end : goal.slice_bounds-emit_children-end
slice_bounds-emit_children-end c = omega (arith, c.requires.1.shown)

pub emit_children-requires : goal.emit_children-requires
emit_children-requires c = let P = c.requires in
    let m : length c.args.hits.now ≡ 256 = search rules in
    ((P.0.0, P.0.1, c.args.held.now, P.0.2.entries), omega (arith, P.2), omega (arith, shown-many P.1, P.1.shown, m), shown-below P.1)

pub returns-then-plan-eq-LIST : goal.returns-then-plan-eq-LIST
returns-then-plan-eq-LIST c = let a = c.args in λ σ es s W C. success-list σ es s (width a.book.now) a.out.now a.at a.plan a.hits.now c.if-plan-eq-LIST.true (c.emit_children.ensures σ es a.held.now W.entries)

pub slice_bounds-emit_matches-end : goal.slice_bounds-emit_matches-end
slice_bounds-emit_matches-end c = omega (arith, c.requires.1.shown)

pub emit_matches-requires : goal.emit_matches-requires
emit_matches-requires c = let P = c.requires in
    let m : length c.args.hits.now ≡ 256 = search rules in
    (P.0, P.2, omega (arith, shown-many P.1, P.1.shown, m), shown-below P.1, P.3)

pub returns : goal.returns
returns c = let a = c.args in λ σ es s W C. success-search σ es s (width a.book.now) a.out.now a.at a.plan a.hits.now c.if-plan-eq-READ.false c.if-plan-eq-COMPARE.false c.if-plan-eq-LIST.false (c.emit_matches.ensures σ es s W C)
