use mathlib.Core.Path.{◌∙◌}
use native.Mathlib.Omega.{arith}
use Rattle.sheet_write.specs.Laws.Put.{spaces-five}
use Rattle.sheet_write.proofs.put_spaces.Goals as goal

pub returns-then-w-eq5 : goal.returns-then-w-eq5
returns-then-w-eq5 c =
    let A = c.args in
    rw c.if-w-eq5.true (c.four_spaces.ensures ∙ spaces-five A.out.now A.at (omega arith))
