use native.Mathlib.Omega.{arith}
use Rattle.tables.specs.Book.{width}
use Rattle.answer_information.specs.Laws.Runs.{root-emits}
use Rattle.answer_information.proofs.emit_information.Goals as goal

pub returns-then-e-eq0 : goal.returns-then-e-eq0
returns-then-e-eq0 c = let a = c.args in (omega arith, λ σ es s W C. root-emits (width a.book.now) a.out.now a.at σ es s a.e c.if-e-eq0.true)

pub emit_runs-requires : goal.emit_runs-requires
emit_runs-requires c = let P = c.requires in (P.0, omega (arith, c.if-e-eq0.false), P.1, P.2, P.3)

pub returns : goal.returns
returns c = c.emit_runs.ensures
