-- No level is left, or the node says which; the parts from here are the parts from the start.
use Rattle.std.specs.Prelude.{Ok}
use Rattle.std.proofs.Common.{◌≡◌, ◌+◌, ◌-◌, sym, ap, ◌∙◌, arith}
use Rattle.std.proofs.lemmas.Result.{err_from_is_err_and}
use Rattle.rules.specs.Request.{request_grammar}
use Rattle.sheet_due.specs.Lines.{misplaced_by}
use Rattle.request_piece.specs.Progress as Progress
use Rattle.request_filter.specs.Node.{node_in}
use Rattle.request_filter.specs.declared.Node as Begun
use Rattle.request_filter.specs.Filters.{filter_at}
use Rattle.request_filter.specs.Laws.Filters.{parts-on, parts-stop, parts_none, filter_none, filter-node}
use Rattle.request_filter.proofs.+filter_at.Goals as goal

pub returns-then-depth-eq0 : goal.returns-then-depth-eq0
returns-then-depth-eq0 t c =
    let a = c.args in
    ap (λ n. Progress.Refused n) (c.misplaced_by.ensures ∙ ap (misplaced_by 20) c.seen_at.ensures)
    ∙ sym (filter_none (request_grammar a.f.top) a.f.width a.q.now a.at a.left a.depth c.if-depth-eq0.true)

pub returns-in_err-step : goal.returns-in_err-step
returns-in_err-step t c =
    let a = c.args in
    let p = err_from_is_err_and c.from_residual.result c.from_residual.ensures.1 in
    rw (p.1, p.2) (sym (filter-node (request_grammar a.f.top) a.f.width a.q.now a.at a.left a.depth c.if-depth-eq0.false _ (sym c.in_err-step.ensures)))

pub loop-init : goal.loop-init
loop-init t c =
    let a = c.args in
    let m : c.in-Operator.count - 0 ≡ c.in-Operator.count = omega arith in
    rw m (sym (filter-node (request_grammar a.f.top) a.f.width a.q.now a.at a.left a.depth c.if-depth-eq0.false _ (sym c.in_ok-step.ensures ∙ ap (λ (n : Begun.Node). node_in (Ok n)) c.in-Operator.is)))

pub returns-in_err-part-in-Operator : goal.returns-in_err-part-in-Operator
returns-in_err-part-in-Operator t c =
    let a = c.args in
    let l = c.loop in
    let p = err_from_is_err_and c.from_residual-in_err-part-in-Operator.result c.from_residual-in_err-part-in-Operator.ensures.1 in
    rw (p.1, p.2)
    (sym (parts-stop (filter_at (request_grammar a.f.top) a.f.width a.q.now (a.depth - 1)) l.part.next l.part.left (c.in-Operator.count - l.counter) (omega (arith, c.loop-test.true)) (sym c.in_err-part-in-Operator.ensures)) ∙ l.invariant)

pub loop-preserved : goal.loop-preserved
loop-preserved t c =
    let a = c.args in
    let l = c.loop in
    let m : (c.in-Operator.count - l.counter) - 1 ≡ c.in-Operator.count - (l.counter + 1) = omega arith in
    rw (← m)
    (sym (parts-on (filter_at (request_grammar a.f.top) a.f.width a.q.now (a.depth - 1)) l.part.next l.part.left (c.in-Operator.count - l.counter) (omega (arith, c.loop-test.true)) (sym c.in_ok-part-in-Operator.ensures)) ∙ l.invariant)

pub returns-in-Item : goal.returns-in-Item
returns-in-Item t c =
    let a = c.args in
    sym (filter-node (request_grammar a.f.top) a.f.width a.q.now a.at a.left a.depth c.if-depth-eq0.false _ (sym c.in_ok-step.ensures ∙ ap (λ (n : Begun.Node). node_in (Ok n)) c.in-Item.is))

pub returns-after-loop : goal.returns-after-loop
returns-after-loop t c =
    let a = c.args in
    let l = c.loop in
    sym (parts_none (filter_at (request_grammar a.f.top) a.f.width a.q.now (a.depth - 1)) l.part.next l.part.left (c.in-Operator.count - l.counter) (omega (arith, c.loop-test.false))) ∙ l.invariant
