-- Each step goes on from where the one before it was taken; the first refusal is the search's.
use Rattle.std.proofs.lemmas.Result.{err_from_is_err_and}
use Rattle.rules.specs.Request.{request_grammar}
use Rattle.request_operation.proofs.Search.{selection-refused, scope-refused, filter-refused, searched}
use Rattle.request_operation.proofs.search_at.Goals as goal

pub returns-in_err-group : goal.returns-in_err-group
returns-in_err-group c =
    let A = c.args in
    let p = err_from_is_err_and c.from_residual.result c.from_residual.ensures.1 in
    rw (p.1, p.2) (selection-refused (request_grammar A.f.top) A.f.width A.q.now A.at _ c.in_err-group.ensures)

pub returns-in_err-scope : goal.returns-in_err-scope
returns-in_err-scope c =
    let A = c.args in
    let g = c.in_ok-group.ensures in
    let p = err_from_is_err_and c.from_residual-in_err-scope.result c.from_residual-in_err-scope.ensures.1 in
    rw (p.1, p.2) (scope-refused (request_grammar A.f.top) A.f.width A.q.now A.at c.in_ok-group.group g.0 g.1 _ c.in_err-scope.ensures)

pub returns-in_err-end : goal.returns-in_err-end
returns-in_err-end c =
    let A = c.args in
    let g = c.in_ok-group.ensures in
    let s = c.in_ok-scope.ensures in
    let p = err_from_is_err_and c.from_residual-in_err-end.result c.from_residual-in_err-end.ensures.1 in
    rw (p.1, p.2) (filter-refused (request_grammar A.f.top) A.f.width A.q.now A.at c.in_ok-group.group g.0 g.1 c.in_ok-scope.scope s.0 s.1 c.in_err-end.field-0.0 c.in_err-end.ensures)

pub returns : goal.returns
returns c =
    let A = c.args in
    let g = c.in_ok-group.ensures in
    let s = c.in_ok-scope.ensures in
    searched (request_grammar A.f.top) A.f.width A.q.now A.at c.in_ok-group.group g.0 g.1 c.in_ok-scope.scope s.0 s.1 c.in_ok-end.end c.no_line.result c.in_ok-end.ensures c.no_line.ensures
