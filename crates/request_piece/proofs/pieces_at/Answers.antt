-- One piece more is read, or refused.
use mathlib.Core.Path.{sym, ◌∙◌}
use Rattle.std.proofs.lemmas.Result.{err_from_is_err_and}
use Rattle.rules.specs.Request.{request_grammar}
use Rattle.request_piece.specs.Laws.Pieces.{pieces-on, pieces-stop, pieces_none}
use Rattle.request_piece.proofs.pieces_at.Goals as goal

pub returns-in_err-step : goal.returns-in_err-step
returns-in_err-step c =
    let A = c.args in
    let L = c.loop-after in
    let p = err_from_is_err_and c.from_residual.result c.from_residual.ensures.1 in
    rw (p.1, p.2) (sym (pieces-stop (request_grammar A.f.top) A.f.width A.q.now L.first L.step.next L.step.left L.after c.loop-after-test.true (sym c.in_err-step.ensures)) ∙ L.invariant)

pub loop-after-preserved : goal.loop-after-preserved
loop-after-preserved c =
    let A = c.args in
    let L = c.loop-after in
    sym (pieces-on (request_grammar A.f.top) A.f.width A.q.now L.first L.step.next L.step.left L.after c.loop-after-test.true (sym c.in_ok-step.ensures)) ∙ L.invariant

pub returns : goal.returns
returns c =
    let A = c.args in
    let L = c.loop-after in
    sym (pieces_none (request_grammar A.f.top) A.f.width A.q.now L.first L.step.next L.step.left L.after c.loop-after-test.false) ∙ L.invariant
