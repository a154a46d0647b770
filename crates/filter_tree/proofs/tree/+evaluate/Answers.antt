-- A line's truth by what stands there; the parts from here are the parts from the start.
use Prim.Native.Nat.{◌+◌, ◌-◌, ◌≤◌, ◌<◌}
use mathlib.Core.Path.{◌≡◌, sym, ap, ap₂, ◌∙◌}
use native.Mathlib.Omega.{arith}
use Rattle.std.proofs.lemmas.List.{get_or_default}
use Rattle.rules.specs.Filter.{negation}
use Rattle.rules.specs.Places.{lines_at}
use Rattle.tables.specs.FilterLines.{Evaluated, evaluated, evaluate_lines}
use Rattle.sheet_kind.specs.Laws.Kinds.{is-kind, not-kind}
use Rattle.filter_lines.specs.Lines.{column_a, position_at}
use Rattle.filter_truth.specs.Join.{join_by}
use Rattle.filter_tree.specs.Laws.Tree.{tree-none, tree_over, tree-not, tree-group, tree-item, parts-end, parts-on}
use Rattle.filter_tree.proofs.tree.+evaluate.Goals as goal

pub returns-then-depth-eq0 : goal.returns-then-depth-eq0
returns-then-depth-eq0 t c = let a = c.args in (c.requires.1, λ w q m h told. tree-none a.edition m h a.k a.depth c.if-depth-eq0.true)

pub returns-then-lines-k : goal.returns-then-lines-k
returns-then-lines-k t c = let a = c.args in (c.requires.1, λ w q m h told. tree_over a.edition m h a.k a.depth c.if-lines-k.true c.requires.1)

pub returns-then-is : goal.returns-then-is
returns-then-is t c =
    let a = c.args in
    let p = c.evaluate-part.ensures in (
      p.0,
      λ w q m h told. rw c.negated.ensures (ap (λ (r : Evaluated). evaluated (negation r.truth) r.rest) (p.1 w q m h told)
          ∙ sym (tree-not a.edition m h a.k a.depth c.if-lines-k.false c.if-depth-eq0.false (is-kind c.is.ensures c.if-is.true))),
    )

pub loop-i-init : goal.loop-i-init
loop-i-init t c =
    let a = c.args in
    let n = column_a a.rows.now a.k in
    let z : n - 0 ≡ n = omega arith in (
      omega (arith, c.if-lines-k.false),
      λ w q m h told. rw (z, c.start-truth.ensures, c.is-conjunction.ensures) (sym (tree-group a.edition m h a.k a.depth c.if-lines-k.false c.if-depth-eq0.false (sym c.joins.ensures ∙ c.if-joins.true))),
    )

pub loop-i-preserved : goal.loop-i-preserved
loop-i-preserved t c =
    let a = c.args in
    let L = c.loop-i in
    let n = column_a a.rows.now a.k in
    let p = c.evaluate-part-in-loop-i.ensures in
    let left : 0 < n - L._i = omega (arith, c.loop-i-test.true) in
    let z : n - (L._i + 1) ≡ n - L._i - 1 = omega arith in (
      p.0,
      λ w q m h told. rw (z, c.joined-truth.ensures)
          (sym (parts-on (join_by a.edition c.is-conjunction.result) (evaluate_lines a.edition m (a.depth - 1)) (n - L._i) L.truth (lines_at w q (position_at a.rows.now L.next)) left _ _ (p.1 w q m h told)) ∙ L.invariant.1 w q m h told),
    )

pub returns-then-joins : goal.returns-then-joins
returns-then-joins t c =
    let a = c.args in
    let L = c.loop-i in
    let none : column_a a.rows.now a.k - L._i ≤ 0 = omega (arith, c.loop-i-test.false) in
    (L.invariant.0, λ w q m h told. sym (parts-end (join_by a.edition c.is-conjunction.result) (evaluate_lines a.edition m (a.depth - 1)) (column_a a.rows.now a.k - L._i) L.truth (lines_at w q (position_at a.rows.now L.next)) none) ∙ L.invariant.1 w q m h told)

pub returns : goal.returns
returns t c =
    let a = c.args in
    let n = not-kind c.is.ensures c.if-is.false in (
      c.after_item.ensures.0,
      λ w q m h told. ap₂ evaluated (get_or_default a.truths.now a.k _ _ (omega (arith, c.told-truths, c.if-lines-k.false, h.placed.few)) ∙ (told.line a.k c.if-lines-k.false).told n (sym c.joins.ensures ∙ c.if-joins.false)) (c.after_item.ensures.1 w q h)
          ∙ sym (tree-item a.edition m h a.k a.depth c.if-lines-k.false c.if-depth-eq0.false n (sym c.joins.ensures ∙ c.if-joins.false)),
    )
