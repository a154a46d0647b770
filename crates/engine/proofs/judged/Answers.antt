use mathlib.Core.Path.{refl}
use lib.ListN.{length}
use Rattle.tables.specs.Book.{BOOK}
use Rattle.answer_reply.specs.Laws.Reply.{replies-refused, replies-same}
use Rattle.engine.specs.Laws.Serve.{directory-refuses, directory-accepts}
use Rattle.directory_sheet.specs.Laws.Refusals.{directory-refused, directory-accepted}
use Rattle.engine.specs.Laws.Respond.{directory-at, cleared}
use borrow.Author.Rules.{rules}
use Rattle.engine.proofs.judged.Goals as goal

pub returns-in-Err : goal.returns-in-Err
returns-in-Err c =
    let A = c.args in
    let d = A.d.now in
    replies-refused c.refusal_number.result _ A.out.now c.refused.result c.refused.ensures
    (rw c.refusal_number.ensures (directory-refuses A.terms.format A.terms.limits d A.p.now A.q.now (length A.out.now) _ (directory-refused A.terms.format d c.in-Err.ensures c.in-Err.refusal refl)))

pub note-requires : goal.note-requires
note-requires c = let A = c.args in let d = A.d.now in let N = directory-accepted A.terms.format d c.in-Ok.ensures c.in-Ok.notes refl in (c.requires, (d, N.0, c.judge.new.held, N.1, N.2), search rules)

pub permitted-requires : goal.permitted-requires
permitted-requires c = let A = c.args in let d = A.d.now in let N = directory-accepted A.terms.format d c.in-Ok.ensures c.in-Ok.notes refl in let h = c.judge.new.held in let bk = c.note.new.book in let at = directory-at A.terms.format d N.0 c.in-Ok.notes h _ bk N.1 N.2 (cleared BOOK) c.note.ensures.0 c.requires c.note.ensures.1 in (N.0, at)

pub returns : goal.returns
returns c = let A = c.args in let d = A.d.now in let room = length A.out.now in let N = directory-accepted A.terms.format d c.in-Ok.ensures c.in-Ok.notes refl in let h = c.judge.new.held in let bk = c.note.new.book in let at = directory-at A.terms.format d N.0 c.in-Ok.notes h _ bk N.1 N.2 (cleared BOOK) c.note.ensures.0 c.requires c.note.ensures.1 in replies-same (directory-accepts A.terms.format A.terms.limits d A.p.now A.q.now room N.0 N.1) (c.permitted.ensures N.0 at)
