-- The last digit, then the bytes before it.
use mathlib.Core.Path.{◌∙◌}
use native.Mathlib.Omega.{arith}
use Rattle.sheet_write.specs.Laws.Put.{column-last}
use Rattle.sheet_write.proofs.put_column.Goals as goal

pub returns : goal.returns
returns c =
    let A = c.args in
    c.put_leading.ensures ∙ column-last A.out.now A.at A.w A.n (omega arith) (omega arith)
