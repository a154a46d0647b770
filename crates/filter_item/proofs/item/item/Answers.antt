use native.Mathlib.Omega.{arith}
use Rattle.filter_lines.specs.Lines.{kind_at, column_a, type_rank, line_value, pieces_at}
use Rattle.filter_matchable.specs.Laws.Matchable.{values-within}
use Rattle.filter_item.specs.Laws.Entry.{item-beyond, item-undecidable, item-told}
use Rattle.filter_item.proofs.item.item.Goals as goal

pub returns-then-book-rank : goal.returns-then-book-rank
returns-then-book-rank c =
    let A = c.args in
    let P = c.requires in
    let rows = A.rows.now in
    let kind = kind_at rows A.line in
    let t = column_a rows A.line in
    let rank = type_rank rows A.line in
    let v = line_value A.q.now rows A.line in
    let ps = pieces_at A.q.now rows A.extent.lines A.line in
    λ σ es asked e s w. item-beyond σ es A.d.now A.book.now A.held.now e A.k (omega (arith, P.0.candidate.within, e.count)) kind t rank v ps (P.3.rank A.line P.4) c.if-book-rank.true

pub satisfied-requires : goal.satisfied-requires
satisfied-requires c = let P = c.requires in (values-within P.0.candidate.search.world.entries c.args.k P.0.candidate.within, P.2, P.4)

pub returns-then-decidable : goal.returns-then-decidable
returns-then-decidable c =
    let A = c.args in
    let P = c.requires in
    let rows = A.rows.now in
    let kind = kind_at rows A.line in
    let t = column_a rows A.line in
    let rank = type_rank rows A.line in
    let v = line_value A.q.now rows A.line in
    let ps = pieces_at A.q.now rows A.extent.lines A.line in
    let few = c.if-book-rank.false in
    λ σ es asked e s w.
    item-told σ es A.d.now A.book.now A.held.now e A.k (omega (arith, P.0.candidate.within, e.count)) kind t rank v ps (P.3.rank A.line P.4) few asked A.types A.values.now s (w few)
    c.decidable.result c.satisfied.result c.truth_of.result
    c.decidable.ensures c.if-decidable.true c.satisfied.ensures c.truth_of.ensures

pub returns : goal.returns
returns c =
    let A = c.args in
    let P = c.requires in
    let rows = A.rows.now in
    let kind = kind_at rows A.line in
    let t = column_a rows A.line in
    let rank = type_rank rows A.line in
    let v = line_value A.q.now rows A.line in
    let ps = pieces_at A.q.now rows A.extent.lines A.line in
    let few = c.if-book-rank.false in
    λ σ es asked e s w.
    item-undecidable σ es A.d.now A.book.now A.held.now e A.k (omega (arith, P.0.candidate.within, e.count)) kind t rank v ps (P.3.rank A.line P.4) few asked A.types A.values.now s (w few) c.decidable.result c.decidable.ensures c.if-decidable.false
