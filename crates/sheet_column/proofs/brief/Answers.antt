-- Spaces leave a column of two bytes.
use mathlib.Core.Path.{◌∙◌}
use native.Mathlib.Omega.{arith}
use Rattle.sheet_column.specs.Laws.{brief-column}
use Rattle.sheet_column.proofs.brief.Goals as goal

pub returns-then-four_spaces-2 : goal.returns-then-four_spaces-2
returns-then-four_spaces-2 c =
    let A = c.args in
    let e = c.four_spaces.ensures c.if-four_spaces.true in
    let f = c.four_spaces-then-four_spaces.ensures c.if-four_spaces-2.true in
    λ h. brief-column A.s.now A.from A.w (omega arith) (omega arith) (omega arith) e f ∙ c.pair.ensures h
