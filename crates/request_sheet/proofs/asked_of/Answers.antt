-- By the length; then each step goes on from where the one before it was taken, and the first refusal is the request's.
use borrow.Author.Tests.{lt-ltb}
use lib.ListN.{length}
use native.Mathlib.Omega.{arith}
use Rattle.std.proofs.lemmas.Result.{err_from_is_err_and}
use Rattle.rules.specs.Request.{request_grammar}
use Rattle.request_sheet.specs.Whole.{asked_of}
use Rattle.request_sheet.proofs.Steps.{requester-refused, base-refused, body-refused, body-taken}
use Rattle.request_sheet.proofs.asked_of.Goals as goal

pub returns-then-q-gt8192 : goal.returns-then-q-gt8192
unfolding asked_of
returns-then-q-gt8192 c = rw (lt-ltb 8192 (length c.args.q.now) (omega (arith, c.if-q-gt8192.true)))

pub returns-in_err-requester : goal.returns-in_err-requester
returns-in_err-requester c =
    let A = c.args in
    let p = err_from_is_err_and c.from_residual.result c.from_residual.ensures.1 in
    rw (p.1, p.2) (requester-refused (request_grammar A.f.top) A.f.width A.q.now c.if-q-gt8192.false c.in_err-requester.field-0.0 c.in_err-requester.ensures)

pub returns-in_err-base : goal.returns-in_err-base
returns-in_err-base c =
    let A = c.args in
    let x = c.in_ok-requester.ensures in
    let p = err_from_is_err_and c.from_residual-in_err-base.result c.from_residual-in_err-base.ensures.1 in
    rw (p.1, p.2) (base-refused (request_grammar A.f.top) A.f.width A.q.now c.if-q-gt8192.false c.in_ok-requester.requester x.0 x.1 c.in_err-base.field-0.0 c.in_err-base.ensures)

pub returns-in_err-body : goal.returns-in_err-body
returns-in_err-body c =
    let A = c.args in
    let x = c.in_ok-requester.ensures in
    let y = c.in_ok-base.ensures in
    let p = err_from_is_err_and c.from_residual-in_err-body.result c.from_residual-in_err-body.ensures.1 in
    rw (p.1, p.2)
    (body-refused (request_grammar A.f.top) A.f.width A.q.now c.if-q-gt8192.false c.in_ok-requester.requester x.0 x.1 c.in_ok-base.base y.0 y.1 c.in_err-body.field-0.0 c.in_err-body.ensures)

pub returns : goal.returns
returns c =
    let A = c.args in
    let x = c.in_ok-requester.ensures in
    let y = c.in_ok-base.ensures in
    let b = c.in_ok-body.ensures in
    rw (c.end_by.ensures, c.seen_at.ensures)
    (body-taken (request_grammar A.f.top) A.f.width A.q.now c.if-q-gt8192.false c.in_ok-requester.requester x.0 x.1 c.in_ok-base.base y.0 y.1 c.in_ok-body.body b.0 b.1)
