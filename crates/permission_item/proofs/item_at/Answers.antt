-- The five calls, one reader after the other, are the five lines of the item, or its first refusal.
use Rattle.std.specs.Prelude.{Ok, Err}
use Rattle.rules.specs.Places.{schema_of}
use Rattle.std.proofs.lemmas.Result.{err_from_is_err_and}
use Rattle.permission_item.specs.Laws.Item.{head-read, base-read, user-read, target-read, mask-read, lines-read, head-refused, base-refused, user-refused, target-refused, mask-refused}
use Rattle.permission_item.proofs.item_at.Goals as goal

pub returns-in_err-head : goal.returns-in_err-head
returns-in_err-head c =
    let A = c.args in
    let S = schema_of A.schema.now in
    let p = err_from_is_err_and c.from_residual.result c.from_residual.ensures.1 in
    let r = c.in_err-head.field-0.0 in
    rw (p.1, p.2) (head-refused A.f A.p.now S A.at r (head-read A.f A.p S A.at (Err r) c.new.ensures c.in_err-head.ensures))

pub returns-in_err-base : goal.returns-in_err-base
returns-in_err-base c =
    let A = c.args in
    let S = schema_of A.schema.now in
    let h0 = head-read A.f A.p S A.at (Ok c.in_ok-head.head) c.new.ensures c.in_ok-head.ensures in
    let p = err_from_is_err_and c.from_residual-in_err-base.result c.from_residual-in_err-base.ensures.1 in
    let r = c.in_err-base.field-0.0 in
    rw (p.1, p.2) (base-refused A.f A.p.now S A.at r (base-read A.f A.p S A.at (Err r) c.in_ok-head.head h0 c.in_err-base.ensures))

pub returns-in_err-user : goal.returns-in_err-user
returns-in_err-user c =
    let A = c.args in
    let S = schema_of A.schema.now in
    let h0 = head-read A.f A.p S A.at (Ok c.in_ok-head.head) c.new.ensures c.in_ok-head.ensures in
    let h1 = base-read A.f A.p S A.at (Ok c.in_ok-base.base) c.in_ok-head.head h0 c.in_ok-base.ensures in
    let p = err_from_is_err_and c.from_residual-in_err-user.result c.from_residual-in_err-user.ensures.1 in
    let r = c.in_err-user.field-0.0 in
    rw (p.1, p.2) (user-refused A.f A.p.now S A.at r (user-read A.f A.p S A.at (Err r) c.in_ok-base.base h1 c.in_err-user.ensures))

pub returns-in_err-target : goal.returns-in_err-target
returns-in_err-target c =
    let A = c.args in
    let S = schema_of A.schema.now in
    let h0 = head-read A.f A.p S A.at (Ok c.in_ok-head.head) c.new.ensures c.in_ok-head.ensures in
    let h1 = base-read A.f A.p S A.at (Ok c.in_ok-base.base) c.in_ok-head.head h0 c.in_ok-base.ensures in
    let h2 = user-read A.f A.p S A.at (Ok c.in_ok-user.user) c.in_ok-base.base h1 c.in_ok-user.ensures in
    let p = err_from_is_err_and c.from_residual-in_err-target.result c.from_residual-in_err-target.ensures.1 in
    let r = c.in_err-target.field-0.0 in
    rw (p.1, p.2) (target-refused A.f A.p.now S A.at r (target-read A.f A.p S A.at (Err r) c.in_ok-user.user h2 c.in_err-target.ensures))

pub returns-in_err-mask : goal.returns-in_err-mask
returns-in_err-mask c =
    let A = c.args in
    let S = schema_of A.schema.now in
    let h0 = head-read A.f A.p S A.at (Ok c.in_ok-head.head) c.new.ensures c.in_ok-head.ensures in
    let h1 = base-read A.f A.p S A.at (Ok c.in_ok-base.base) c.in_ok-head.head h0 c.in_ok-base.ensures in
    let h2 = user-read A.f A.p S A.at (Ok c.in_ok-user.user) c.in_ok-base.base h1 c.in_ok-user.ensures in
    let h3 = target-read A.f A.p S A.at (Ok c.in_ok-target.target) c.in_ok-user.user h2 c.in_ok-target.ensures in
    let p = err_from_is_err_and c.from_residual-in_err-mask.result c.from_residual-in_err-mask.ensures.1 in
    let r = c.in_err-mask.field-0.0 in
    rw (p.1, p.2) (mask-refused A.f A.p.now S A.at r (mask-read A.f A.p S A.at (Err r) c.in_ok-target.target h3 c.in_err-mask.ensures))

pub returns : goal.returns
returns c =
    let A = c.args in
    let S = schema_of A.schema.now in
    let h0 = head-read A.f A.p S A.at (Ok c.in_ok-head.head) c.new.ensures c.in_ok-head.ensures in
    let h1 = base-read A.f A.p S A.at (Ok c.in_ok-base.base) c.in_ok-head.head h0 c.in_ok-base.ensures in
    let h2 = user-read A.f A.p S A.at (Ok c.in_ok-user.user) c.in_ok-base.base h1 c.in_ok-user.ensures in
    let h3 = target-read A.f A.p S A.at (Ok c.in_ok-target.target) c.in_ok-user.user h2 c.in_ok-target.ensures in
    let h4 = mask-read A.f A.p S A.at (Ok c.in_ok-mask.mask) c.in_ok-target.target h3 c.in_ok-mask.ensures in
    lines-read A.f A.p S A.at c.in_ok-head.head c.in_ok-base.base c.in_ok-user.user c.in_ok-target.target c.in_ok-mask.mask h0 h1 h2 h3 h4
