-- The line does not fit, or it is written.
use native.Mathlib.Omega.{arith}
use Rattle.rules.specs.Sheet.{line}
use Rattle.sheet_kind.specs.Kinds.{number_of}
use Rattle.answer_line.specs.Laws.Emit.{emits-not, emits-written}
use borrow.Author.Rules.{rules}
use Rattle.answer_line.proofs.emit.Goals as goal

pub returns-then-out-end : goal.returns-then-out-end
returns-then-out-end c =
    let A = c.args in
    let e = c.size.ensures in
    emits-not A.w A.out.now A.at (line (number_of A.kind) A.a A.b A.c A.bytes.now) (omega (arith, e, c.if-out-end.true)) (omega (arith, e))

pub returns : goal.returns
returns c =
    let A = c.args in
    let r = c.put_line.ensures in
    emits-written A.w A.out.now A.at (line (number_of A.kind) A.a A.b A.c A.bytes.now) (omega (arith, c.size.ensures, c.if-out-end.false)) r.written r.next
