-- What the code does is what the rules give.
use mathlib.Core.Path.{ap, ◌∙◌}
use Rattle.std.proofs.lemmas.Result.{err_from_is_err_and}
use Rattle.rules.specs.Places.{schema_of}
use Rattle.request_sheet.specs.Whole.{ordered_of}
use Rattle.request_sheet.specs.Laws.Whole.{asked-judged}
use Rattle.request_sheet.proofs.judge.Goals as goal

pub returns-in_err-asked : goal.returns-in_err-asked
returns-in_err-asked c =
    let A = c.args in
    let p = err_from_is_err_and c.from_residual.result c.from_residual.ensures.1 in
    asked-judged A.f (schema_of A.schema.now) A.q.now c.from_residual.result (rw (p.1, p.2) (ap (ordered_of (schema_of A.schema.now)) c.in_err-asked.ensures))

pub returns : goal.returns
returns c =
    let A = c.args in
    asked-judged A.f (schema_of A.schema.now) A.q.now c.orderable.result (c.orderable.ensures ∙ ap (ordered_of (schema_of A.schema.now)) c.in_ok-asked.ensures)
