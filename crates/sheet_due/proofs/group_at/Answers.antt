-- The line, then the lines from where it ends; a refusal of the line is the group's.
use Rattle.std.proofs.lemmas.Result.{err_from_is_err_and}
use Rattle.rules.specs.Places.{schema_of}
use Rattle.sheet_kind.specs.Kinds.{number_of}
use Rattle.sheet_due.specs.Grammars.{grammar_of}
use Rattle.sheet_due.specs.Lines.{reached_in}
use Rattle.sheet_due.specs.Laws.Outcomes.{group-taken, group-refused, group-lines-refused}
use Rattle.sheet_due.proofs.group_at.Goals as goal

pub returns-in_err-line : goal.returns-in_err-line
returns-in_err-line c =
    let A = c.args in
    let p = err_from_is_err_and c.from_residual.result c.from_residual.ensures.1 in
    rw (p.1, p.2) (group-refused (grammar_of A.f.top (schema_of A.schema.now) A.g) A.f.width A.s.now (reached_in A.from) (number_of A.kind) (number_of A.part) _ c.in_err-line.ensures)

pub returns-in_err-next : goal.returns-in_err-next
returns-in_err-next c =
    let A = c.args in
    let d = c.in_ok-line.ensures in
    let p = err_from_is_err_and c.from_residual-in_err-next.result c.from_residual-in_err-next.ensures.1 in
    rw (p.1, p.2) (group-lines-refused (grammar_of A.f.top (schema_of A.schema.now) A.g) A.f.width A.s.now (reached_in A.from) (number_of A.kind) (number_of A.part) d.0 d.1 _ c.in_err-next.ensures)

pub returns : goal.returns
returns c =
    let A = c.args in
    let d = c.in_ok-line.ensures in
    let e = c.in_ok-next.ensures in
    group-taken (grammar_of A.f.top (schema_of A.schema.now) A.g) A.f.width A.s.now (reached_in A.from) (number_of A.kind) (number_of A.part) d.0 d.1 e.0 e.1
