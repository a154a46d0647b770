-- By the line where K 15 is looked for.
use mathlib.Core.Path.{◌∙◌}
use Rattle.std.proofs.lemmas.Result.{err_from_is_err_and}
use Rattle.rules.specs.Request.{request_grammar}
use Rattle.rules.proofs.Laws.Refusals.{refusal-some}
use Rattle.request_operation.proofs.Search.{unordered, ordering-refused, subset-refused, ordered}
use Rattle.request_operation.proofs.search_lines.Goals as goal

pub returns-in-Ok : goal.returns-in-Ok
returns-in-Ok c =
    let A = c.args in
    let d = c.in-Ok.ensures in
    unordered (request_grammar A.f.top) A.f.width A.q.now A.at c.in-Ok.subset c.no_line.result d.0 d.1 c.no_line.ensures

pub returns-in_err-ordering-in-Err : goal.returns-in_err-ordering-in-Err
returns-in_err-ordering-in-Err c =
    let A = c.args in
    let p = err_from_is_err_and c.from_residual.result c.from_residual.ensures.1 in
    rw (p.1, p.2) (ordering-refused (request_grammar A.f.top) A.f.width A.q.now A.at (λ z. refusal-some c.in-Err.field-0 (c.in-Err.ensures ∙ z)) _ c.in_err-ordering-in-Err.ensures)

pub returns-in_err-subset-in-Err : goal.returns-in_err-subset-in-Err
returns-in_err-subset-in-Err c =
    let A = c.args in
    let d = c.in_ok-ordering-in-Err.ensures in
    let p = err_from_is_err_and c.from_residual-in_err-subset-in-Err.result c.from_residual-in_err-subset-in-Err.ensures.1 in
    rw (p.1, p.2)
    (subset-refused (request_grammar A.f.top) A.f.width A.q.now A.at (λ z. refusal-some c.in-Err.field-0 (c.in-Err.ensures ∙ z)) c.in_ok-ordering-in-Err.ordering d.0 d.1 _ c.in_err-subset-in-Err.ensures)

pub returns-in_ok-subset-in-Err : goal.returns-in_ok-subset-in-Err
returns-in_ok-subset-in-Err c =
    let A = c.args in
    let d = c.in_ok-ordering-in-Err.ensures in
    let e = c.in_ok-subset-in-Err.ensures in
    ordered (request_grammar A.f.top) A.f.width A.q.now A.at (λ z. refusal-some c.in-Err.field-0 (c.in-Err.ensures ∙ z)) c.in_ok-ordering-in-Err.ordering d.0 d.1 c.in_ok-subset-in-Err.subset e.0 e.1
