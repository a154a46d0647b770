-- One space more from the right.
use mathlib.Core.Path.{sym, ◌∙◌}
use native.Mathlib.Omega.{arith}
use lib.ListN.{length-set}
use Rattle.sheet_write.specs.Laws.Put.{column-on, column-done}
use borrow.Author.Rules.{rules}
use Rattle.sheet_write.proofs.single_spaces.Goals as goal

pub loop-i-preserved : goal.loop-i-preserved
loop-i-preserved c =
    let A = c.args in
    let L = c.loop-i in
    (search rules, simp length-set L.invariant.1, column-on L.out A.at L.i 0 c.loop-i-test.true (omega arith) ∙ L.invariant.2)

pub returns : goal.returns
returns c =
    let L = c.loop-i in
    sym (column-done L.out c.args.at L.i 0 c.loop-i-test.false) ∙ L.invariant.2
