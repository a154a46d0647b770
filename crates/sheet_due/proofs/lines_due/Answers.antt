-- One line more is taken, or refused.
use mathlib.Core.Path.{refl, sym, ap, ◌∙◌}
use native.Mathlib.Omega.{arith}
use Prim.Native.Nat.{◌-◌}
use Rattle.std.proofs.lemmas.Result.{err_from_is_err_and}
use Rattle.rules.specs.Places.{schema_of}
use Rattle.sheet_kind.specs.Kinds.{number_of}
use Rattle.sheet_due.specs.Grammars.{grammar_of}
use Rattle.sheet_due.specs.Outcomes.{Reached}
use Rattle.sheet_due.specs.Lines.{reached_at}
use Rattle.sheet_due.specs.Laws.Lines.{lines_none}
use Rattle.sheet_due.specs.Laws.Outcomes.{lines-handed, lines-taken, lines-refused}
use Rattle.sheet_due.proofs.lines_due.Goals as goal

pub returns-in_err-start : goal.returns-in_err-start
returns-in_err-start c =
    let A = c.args in
    let p = err_from_is_err_and c.from_residual.result c.from_residual.ensures.1 in
    rw (p.1, p.2, c.in_err-start.was) (lines-handed (grammar_of A.f.top (schema_of A.schema.now) A.g) A.f.width A.s.now (number_of A.kind) A.count c.in_err-start.field-0.0)

pub returns-in_err-pos : goal.returns-in_err-pos
returns-in_err-pos c =
    let A = c.args in
    let p = err_from_is_err_and c.from_residual-in_err-pos.result c.from_residual-in_err-pos.ensures.1 in
    rw (p.1, p.2) (lines-refused (grammar_of A.f.top (schema_of A.schema.now) A.g) A.f.width A.s.now (number_of A.kind) c.loop.pos A.count c.loop.counter c.loop-test.true _ c.in_err-pos.ensures ∙ ap (λ (r : Reached). r.refusal) c.loop.invariant)

pub loop-preserved : goal.loop-preserved
loop-preserved c =
    let A = c.args in
    let d = c.in_ok-pos.ensures in
    sym (lines-taken (grammar_of A.f.top (schema_of A.schema.now) A.g) A.f.width A.s.now (number_of A.kind) c.loop.pos A.count c.loop.counter c.loop-test.true _ d.0 d.1) ∙ c.loop.invariant

pub returns : goal.returns
returns c =
    let A = c.args in
    rw (← c.loop.invariant, lines_none (grammar_of A.f.top (schema_of A.schema.now) A.g) A.f.width A.s.now (number_of A.kind) (reached_at c.loop.pos) (A.count - c.loop.counter) (omega (arith, c.loop-test.false))) (refl, refl)
