use native.Mathlib.Omega.{arith}
use lib.ListN.{get_or}
use Rattle.tables.specs.Book.{width}
use Rattle.tables.specs.Plan.{child_lines}
use Rattle.answer_print.specs.Laws.Lines.{run-start, run_on, run_end, child-by}
use Rattle.answer_print.proofs.entries.emit_children.Goals as goal

pub loop-k-init : goal.loop-k-init
loop-k-init c = let a = c.args in (omega arith, λ σ es held E. run-start (width a.book.now) a.out.now a.at (child_lines es) a.hits.now)

pub loop-k-preserved : goal.loop-k-preserved
loop-k-preserved c = let a = c.args in
    let L = c.loop-k in
    let l = c.loop-k-test.true in
    let q = c.emit_child-next.ensures in (
      omega (arith, L.invariant.0, q.0),
      λ σ es held E. run_on (width a.book.now) a.out.now a.at (child_lines es) a.hits.now L.k-index l (L.invariant.1 σ es held E)
          (child-by es (width a.book.now) L.out L.next (get_or a.hits.now L.k-index 0) (q.1 σ es held E)),
    )

pub returns : goal.returns
returns c = let a = c.args in
    let L = c.loop-k in
    λ σ es held E. run_end (width a.book.now) a.out.now a.at (child_lines es) a.hits.now L.k-index (omega arith) (L.invariant.1 σ es held E)
