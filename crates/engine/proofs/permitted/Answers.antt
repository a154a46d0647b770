use mathlib.Core.Path.{refl, sym, ap, ◌∙◌}
use mathlib.Core.List.{[]}
use Prim.Native.Nat.{ℕ}
use Rattle.rules.specs.Refusals.{refusal_number}
use Rattle.permission_sheet.specs.Noted.{items_refused}
use Rattle.permission_sheet.specs.Laws.Noted.{noted-some}
use native.Mathlib.Omega.{arith}
use lib.ListN.{length}
use Rattle.rules.specs.Serve.{setting_of}
use Rattle.rules.specs.Places.{schema_of}
use Rattle.access_items.specs.Laws.Sorted.{sorted_of}
use Rattle.answer_reply.specs.Laws.Reply.{replies-refused, replies-same}
use Rattle.engine.specs.Laws.Serve.{permissions-refuse, permissions-accept}
use Rattle.engine.specs.Laws.Respond.{order-front, order-room, sorted-in}
use borrow.Author.Rules.{rules}
use Rattle.engine.proofs.permitted.Goals as goal

pub schema-requires : goal.schema-requires
schema-requires c = let x = c.requires.0 in (c.requires.1.entries (setting_of x [] (record { level = 0; name = [] })) refl).fits

pub judge-items-requires : goal.judge-items-requires
judge-items-requires c = (c.requires.1.usable, refl, refl)

pub returns-in-Err : goal.returns-in-Err
returns-in-Err c = let A = c.args in let f = A.terms.format in let k = A.terms.limits in let p = A.p.now in let r = c.in-Err.refusal in λ x D.
    replies-refused (refusal_number r) _ A.out.now c.refused.result (c.refused.ensures ∙ ap (λ (n : ℕ). record { refusal = n; length = 0 }) c.refusal_number.ensures)
    (permissions-refuse f k x c.schema.result.now ((D.entries (setting_of x [] (record { level = 0; name = [] })) refl).schema-is ∙ ap schema_of (sym c.schema.ensures)) p A.q.now (length A.out.now) (items_refused (refusal_number r)) _ _ c.in-Err.ensures (noted-some r))

pub rank_items-requires : goal.rank_items-requires
rank_items-requires c = let j = c.in-Ok in
    let a = j.ensures.accepted refl in let N = j.ensures.noted a.0 a.1 in
    (search rules, omega (arith, N.count, N.table.few))

pub slice_bounds-requested-end : goal.slice_bounds-requested-end
slice_bounds-requested-end c = let j = c.in-Ok in
    let r = c.rank_items in order-room _ r.new.order _ j.count r.ensures

pub requested-requires : goal.requested-requires
requested-requires c = let A = c.args in let f = A.terms.format in let p = A.p.now in let j = c.in-Ok in let x = c.requires.0 in let D = c.requires.1 in
    let a = j.ensures.accepted refl in let N = j.ensures.noted a.0 a.1 in
    let r = c.rank_items in let F = order-front f.width p a.0 _ _ r.new.order _ j.count N.table N.count r.ensures in
    let S = sorted-in D.columns (sorted_of f (schema_of c.schema.result.now) p a.0 (record { refusal = 0; count = j.count }) _ _ _ a.1 N F.0 F.1) in
    (record { directory = x; items = a.0 }, record { directory = D; items = S })

pub returns : goal.returns
returns c = let A = c.args in let f = A.terms.format in let k = A.terms.limits in let p = A.p.now in let j = c.in-Ok in λ x D.
    let a = j.ensures.accepted refl in let N = j.ensures.noted a.0 a.1 in
    let r = c.rank_items in let F = order-front f.width p a.0 _ _ r.new.order _ j.count N.table N.count r.ensures in
    let S = sorted-in D.columns (sorted_of f (schema_of c.schema.result.now) p a.0 (record { refusal = 0; count = j.count }) _ _ _ a.1 N F.0 F.1) in
    replies-same
    (permissions-accept f k x c.schema.result.now ((D.entries (setting_of x [] (record { level = 0; name = [] })) refl).schema-is ∙ ap schema_of (sym c.schema.ensures)) p A.q.now (length A.out.now) (record { refusal = 0; count = j.count }) _ _ j.ensures a.0 a.1)
    (c.requested.ensures (record { directory = x; items = a.0 }) (record { directory = D; items = S }))
