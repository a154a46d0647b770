use mathlib.Core.Path.{◌≡◌, refl, ◌∙◌}
use native.Mathlib.Omega.{arith}
use Rattle.std.proofs.lemmas.Result.{err_from_is_err_and}
use Rattle.rules.specs.Places.{schema_of}
use Rattle.rules.proofs.Laws.Refusals.{refusal-some}
use Rattle.permission_sheet.specs.Laws.ItemsRead.{reading-start, reading-lengths, reading-on, item-small, item-value, judged-long, judged-over, judged-item, judged-end}
use Rattle.permission_sheet.proofs.judge.Goals as goal

pub returns-then-p-gt65536 : goal.returns-then-p-gt65536
returns-then-p-gt65536 c = let A = c.args in let P = c.requires in rw (P.1, P.2) (judged-long A.f A.p.now A.schema.now c.if-p-gt65536.true)

pub loop-count-init : goal.loop-count-init
loop-count-init c = let A = c.args in let P = c.requires in rw (P.1, P.2) (reading-start A.f A.p.now (schema_of A.schema.now))

pub returns-then-p-at : goal.returns-then-p-at
returns-then-p-at c = let A = c.args in judged-end A.f A.p.now A.schema.now c.if-p-gt65536.false c.loop-count.invariant c.if-p-at.true

pub returns-in_err-lines : goal.returns-in_err-lines
returns-in_err-lines c =
    let A = c.args in
    let e = c.in_err-lines.ensures in
    let p = err_from_is_err_and c.from_residual.result c.from_residual.ensures.1 in
    rw (p.1, p.2, e)
    (judged-item A.f A.p.now A.schema.now c.if-p-gt65536.false c.loop-count.invariant (record { inside = c.if-p-at.false; room = c.loop-count-test.true; is = refl }) (λ z. refusal-some c.in_err-lines.field-0.0 (e ∙ z)))

pub store_rights-requires : goal.store_rights-requires
store_rights-requires c =
    let s = c.loop-count.invariant in
    let g = c.in_ok-lines.ensures in
    (c.loop-count-test.true, (reading-lengths s).0, item-small s (record { inside = c.if-p-at.false; room = c.loop-count-test.true; is = g.1 }) g.0, item-value s (record { inside = c.if-p-at.false; room = c.loop-count-test.true; is = g.1 }) g.0)

pub store_scopes-requires : goal.store_scopes-requires
store_scopes-requires c = (c.loop-count-test.true, (reading-lengths c.loop-count.invariant).1)

pub loop-count-preserved : goal.loop-count-preserved
loop-count-preserved c =
    let g = c.in_ok-lines.ensures in
    reading-on c.loop-count.invariant (record { inside = c.if-p-at.false; room = c.loop-count-test.true; is = g.1 }) g.0 c.store_rights.ensures c.store_scopes.ensures

pub returns-then-at-p : goal.returns-then-at-p
returns-then-at-p c =
    let A = c.args in
    judged-over A.f A.p.now A.schema.now c.if-p-gt65536.false c.loop-count.invariant c.if-at-p.true c.loop-count-test.false c.misplaced_at.ensures

pub returns : goal.returns
returns c =
    let A = c.args in
    let e : c.loop-count.count ≡ 256 = omega arith in
    rw (← e) (judged-end A.f A.p.now A.schema.now c.if-p-gt65536.false c.loop-count.invariant c.if-at-p.false)
